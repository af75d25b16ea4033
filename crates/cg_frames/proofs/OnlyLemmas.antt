-- No other messages and no other rest are in bytes.
use Rattle.std.proofs.Common.{◌≡◌, ℕ, List, [], ◌∷◌, ◌++◌, length, map, Some, None, Ok, Err, refl, sym, ap, ◌∙◌, append_assoc}
use Rattle.std.specs.List.{flat_map, AllByRecursion}
use Rattle.std.proofs.lemmas.List.{drop_at}
use Rattle.std.proofs.lemmas.List.Concat.{flat_map-cons}
use Rattle.cg_messages.specs.declared.message.Message.{Message}
use Rattle.cg_frames.specs.declared.layout.Layout.{Layout}
use Rattle.cg_frames.specs.Layouts.{IsLayout}
use Rattle.cg_frames.specs.Choosing.{AreLayouts}
use Rattle.cg_frames.specs.Feeding.{Standing, with_front, frames_in, StandsAt, spelling, IsSpellable}
use Rattle.cg_frames.specs.Laws.{NothingElseIsSpelled}
use Rattle.cg_frames.proofs.LawLemmas.{frame_is_read_among}
use Rattle.cg_frames.proofs.FeedingLemmas.{frames_at}

module _ (layouts : List Layout) where
  only_rest : (s : Standing) (rest : List ℕ) → StandsAt layouts s rest → frames_in layouts rest ≡ record { messages = []; rest = s }
  only_rest (Ok held) rest stands = ap (frames_in layouts) stands.0 ∙ frames_at layouts held (Ok None) stands.1
  only_rest (Err f) rest stands = frames_at layouts rest (Err f) stands

  only_within : AllByRecursion IsLayout layouts → (spelled : List (Layout × Message)) (s : Standing) (rest : List ℕ) → AllByRecursion (IsSpellable layouts) spelled → StandsAt layouts s rest → frames_in layouts (flat_map spelling spelled ++ rest) ≡ record { messages = map (λ t. t.1) spelled; rest = s }
  only_within each [] s rest fit stands = only_rest s rest stands
  only_within each (t ∷ ts) s rest fit stands =
      let more = flat_map spelling ts ++ rest in
      let regrouped : flat_map spelling (t ∷ ts) ++ rest ≡ spelling t ++ more = ap (λ l. l ++ rest) (flat_map-cons spelling t ts) ∙ append_assoc (spelling t) (flat_map spelling ts) rest in
      ap (frames_in layouts) regrouped
      ∙ frames_at layouts (spelling t ++ more) (Ok (Some (t.1, length (spelling t)))) (frame_is_read_among layouts each t.0 fit.0.0 t.1 more fit.0.1)
      ∙ ap (λ l. with_front (t.1 ∷ []) (frames_in layouts l)) (drop_at (spelling t) more (length (spelling t)) refl)
      ∙ ap (with_front (t.1 ∷ [])) (only_within each ts s rest fit.1 stands)

  -- Two readings of one stream are one.
  pub splits_only : AreLayouts layouts → NothingElseIsSpelled layouts
  splits_only are bytes c split =
      ap (frames_in layouts) split.whole
      ∙ only_within are.each split.spelled c.rest split.rest split.fit split.stands
      ∙ ap (λ (ms : List Message). record { messages = ms; rest = c.rest }) (sym split.messages)
