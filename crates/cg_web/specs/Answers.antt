-- Answers, and the responses that hold them.
use Rattle.std.specs.Prelude.{ℕ, ◌≡◌, ◌+◌, ◌≤◌, ◌⊎◌, Bool, true, false, List, [], ◌∷◌, ◌++◌, Option, Some, None, codes, vec_len}
use Rattle.std.specs.Vec.{vec_capacity}
use Rattle.http_header.specs.FieldValue.{FieldValue, plain_value}
use Rattle.http1.specs.Fields.{Header}
use Rattle.http_server.specs.declared.response.Response.{Response}
use Rattle.http_server.specs.Response.{IsResponse, fields_of}
use Rattle.cg_types.specs.declared.fault.TheConstants.{OUT_OF_MEMORY_LINE}
use Rattle.cg_http.specs.declared.refusal.Refusal.{Refusal}
use Rattle.cg_http.specs.declared.refusal.Refusal.TheVariants as refusal
use Rattle.cg_http.specs.Calls.{allow_text}
use Rattle.cg_http.specs.Refusals.{status_of, words_of}
use Rattle.cg_web.specs.declared.answer.Form.{Form}
use Rattle.cg_web.specs.declared.answer.Form.TheVariants as form
use Rattle.cg_web.specs.declared.answer.Answer.{Answer}

-- the value of `content-type`
unfoldable pub media_type : Form → List ℕ
media_type form.Text = codes "text/plain; charset=utf-8"
media_type form.Json = codes "application/json"
media_type form.Metrics = codes "text/plain; version=0.0.4; charset=utf-8"
media_type form.Page = codes "text/html; charset=utf-8"

-- ---- answers

abbrev pub answer_of : ℕ → Form → List ℕ → Answer
answer_of code kind content = record { status = code; form = kind; more = None; body = content }

-- plain text
abbrev pub plain : ℕ → List ℕ → Answer
plain code content = answer_of code form.Text content

-- the answer if memory runs out
abbrev pub shortage : Answer
shortage = plain 503 OUT_OF_MEMORY_LINE.now

unfoldable pub stopping : Answer
stopping = plain 200 (codes "stopping\n")

unfoldable pub health : Bool → Answer
health true = plain 200 (codes "ok\n")
health false = plain 503 (codes "no round for three intervals\n")

-- the header `allow`, where a path has other methods
unfoldable pub allowed : Refusal → Option (List ℕ × FieldValue)
allowed (refusal.Fault fault) = None
allowed refusal.Forbidden = None
allowed refusal.NotFound = None
allowed (refusal.NotAllowed methods) = Some (codes "allow", plain_value (allow_text methods))
allowed refusal.TooLarge = None

-- the answer of a refusal
abbrev pub refusal_answer : Refusal → Answer
refusal_answer r = record { status = status_of r; form = form.Text; more = allowed r; body = words_of r }

-- The refusal is answered, or memory ran out.
abbrev pub Refuses : Refusal → Answer → Type 0
Refuses r a = (a ≡ refusal_answer r) ⊎ (a ≡ shortage)

-- ---- responses

-- the headers of every answer
unfoldable pub first_fields : List Header
first_fields =
    (codes "connection", codes "close") ∷ (codes "cache-control", codes "no-store")
    ∷ (codes "x-content-type-options", codes "nosniff") ∷ []

abbrev pub more_fields : Option (List ℕ × FieldValue) → List Header
more_fields None = []
more_fields (Some h) = (h.0, h.1.bytes) ∷ []

-- headers, and behind them those that not every answer has
unfoldable pub fields_after : List Header → Form → Option (List ℕ × FieldValue) → List Header
fields_after before kind more = (before ++ (codes "content-type", media_type kind) ∷ []) ++ more_fields more

-- The response is this answer.
abbrev pub Gives : Answer → Response → Type 0
Gives a r = IsResponse a.status (fields_after first_fields a.form a.more) a.body r

-- It is the answer; or memory ran out for its body, and it says so if there was memory for these words.
abbrev pub Tells : Answer → Response → Type 0
Tells a r = Gives a r ⊎ (Gives shortage r ⊎ Gives (plain 503 []) r)

-- The response was begun: it has the headers of every answer and room for two more, and no body.
pub record IsBegun (r : Response) : Type 0 where
  pub headers : fields_of r ≡ first_fields
  pub room : vec_len r.headers + 2 ≤ vec_capacity r.headers
  pub body : r.body.items ≡ []
