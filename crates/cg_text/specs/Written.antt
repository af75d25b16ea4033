-- The part of an expected text that a writer took.
use Rattle.std.specs.Prelude.{◌≡◌, ℕ, ◌⊎◌, List, take, Option}
use Rattle.std.specs.Io.KnownBytes.{Appends}
use Rattle.cg_links.specs.declared.counted.Counted.{Counted}
use Rattle.cg_links.specs.Counted.{KeepsCounts, CountsFailed, CountsIdle, IsFlushed}

-- all of the text was written
pub record WroteAll {L : Type 0} (before after : Option (List ℕ)) (old new : Counted L) (text : List ℕ)
    (status result : ℕ) : Type 0 where
  pub text_is : Appends before after text
  pub kept : KeepsCounts old new
  pub result_is : result ≡ status

-- a prefix of the text was written, and then the writer failed or took nothing
pub record WroteFront {L : Type 0} (before after : Option (List ℕ)) (old new : Counted L) (text : List ℕ)
    (result : ℕ) : Type 0 where
  pub count : ℕ
  pub front : Appends before after (take count text)
  pub caused : CountsFailed old new ⊎ CountsIdle old new
  pub result_is : result ≡ 1

-- the text was written, and the status is the expected one; or a prefix of it was written, and the status is 1
abbrev pub Wrote : {L : Type 0}
    → Option (List ℕ) → Option (List ℕ) → Counted L → Counted L → List ℕ → ℕ → ℕ → Type 0
Wrote before after old new text status result =
    WroteAll before after old new text status result ⊎ WroteFront before after old new text result

-- The same, and a text that was written whole was flushed.
abbrev pub WroteOut : {L : Type 0}
    → Option (List ℕ) → Option (List ℕ) → Counted L → Counted L → List ℕ → ℕ → ℕ → Type 0
WroteOut before after old new text status result =
    (WroteAll before after old new text status result × IsFlushed new) ⊎ WroteFront before after old new text result
