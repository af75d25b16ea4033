-- The keys of a table, and bytes that are no text.
use Rattle.std.proofs.Common.{◌≡◌, ℕ, not, true, false, cond, List, [], ◌∷◌, String, Some, None, refl, map, option_map}
use Rattle.std.specs.Prelude.{string_bytes}
use Rattle.std.specs.List.{find}
use Rattle.std.specs.Str.{IsUtf8, is_utf8}
use Rattle.std.proofs.lemmas.Str.{IsUtf8-from_is_utf8}
use Rattle.std.specs.declared.alloc.Global.{Global}
use Rattle.toml.specs.View.{members_view}
use Rattle.toml.specs.declared.value.Value.{Value}
use Rattle.cg_settings_file.specs.Agent.{unknown_to_agents, is_agent_key}
use Rattle.cg_settings_file.specs.Keys.{unknown_in, is_known}
use Rattle.cg_settings_file.specs.Settings.{text_in}

abbrev pub Entry : Type 0
Entry = String Global × Value

pub unknown_key : (es : List Entry)
    → option_map string_bytes (find (λ k. not (is_known (string_bytes k))) (map (λ e. e.0) es)) ≡ unknown_in (members_view es)
unfolding unknown_in
unknown_key [] = refl
unknown_key (e ∷ es) =
    elim (is_known (string_bytes e.0)) as (λ b. option_map string_bytes (cond (not b) (Some e.0) (find (λ k. not (is_known (string_bytes k))) (map (λ f. f.0) es))) ≡ cond b (unknown_in (members_view es)) (Some (string_bytes e.0))) [
      | true ↦ unknown_key es
      | false ↦ refl
    ]

pub unknown_agent_key : (es : List Entry)
    → option_map string_bytes (find (λ k. not (is_agent_key (string_bytes k))) (map (λ e. e.0) es)) ≡ unknown_to_agents (members_view es)
unfolding unknown_to_agents
unknown_agent_key [] = refl
unknown_agent_key (e ∷ es) =
    elim (is_agent_key (string_bytes e.0)) as (λ b. option_map string_bytes (cond (not b) (Some e.0) (find (λ k. not (is_agent_key (string_bytes k))) (map (λ f. f.0) es))) ≡ cond b (unknown_to_agents (members_view es)) (Some (string_bytes e.0))) [
      | true ↦ unknown_agent_key es
      | false ↦ refl
    ]

pub no_text : (bytes : List ℕ) → (IsUtf8 bytes → ⊥) → text_in bytes ≡ None
unfolding text_in
no_text bytes refused =
    elim (is_utf8 bytes) as (λ b. is_utf8 bytes ≡ b → cond b (Some bytes) None ≡ None) [
      | true ↦ λ e. absurd (refused (IsUtf8-from_is_utf8 bytes e))
      | false ↦ λ e. refl
    ] refl
