-- Headers that are added one after the other.
use Rattle.std.proofs.Common.{◌≡◌, ℕ, List, [], ◌∷◌, ◌++◌, Option, codes, ◌∙◌, ap}
use Rattle.http_header.specs.FieldValue.{FieldValue, plain_value}
use Rattle.http1.specs.Fields.{Header}
use Rattle.cg_web.specs.declared.answer.Form.{Form}
use Rattle.cg_web.specs.Answers.{media_type, more_fields, fields_after}

pub fields_added : (before between after : List Header) (name : List ℕ) (value : FieldValue) (kind : Form) (more : Option (List ℕ × FieldValue))
    → name ≡ codes "content-type" → value ≡ plain_value (media_type kind) → between ≡ before ++ (name, value.bytes) ∷ []
    → after ≡ between ++ more_fields more → after ≡ fields_after before kind more
unfolding fields_after
fields_added before between after name value kind more named valued one two =
    let typed : between ≡ before ++ (codes "content-type", media_type kind) ∷ [] =
    one ∙ ap (λ (n : List ℕ). before ++ (n, value.bytes) ∷ []) named
    ∙ ap (λ (v : FieldValue). before ++ (codes "content-type", v.bytes) ∷ []) valued in
    two ∙ ap (λ (fields : List Header). fields ++ more_fields more) typed
