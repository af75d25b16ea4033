-- The parts of a request that say which call it asks for.
use Rattle.std.specs.Prelude.{ℕ, ◌≡◌, List, [], Option, Some, None, codes, option_map}
use Rattle.std.specs.Option.{option_copied}
use Rattle.http_header.specs.FieldValue.{FieldValue}
use Rattle.http_header.specs.HeaderMap.{Entries, get}
use Rattle.http_uri.specs.Grammar.{or_slash}
use Rattle.http_uri.specs.Uri.{uri_authority, uri_path_and_query}
use Rattle.http.specs.declared.request.Request.{Request}
use Rattle.http.specs.Request.{head_of, body_of}
use Rattle.cg_http.specs.declared.request.Request.{Request as Asked}

-- the first value of a header
abbrev pub value_in : Entries FieldValue → List ℕ → Option (List ℕ)
value_in headers name = option_map (λ v. v.bytes) (get headers name)

-- the path and the query of a target; nothing if it has none
abbrev pub target_text : Option (List ℕ) → List ℕ
target_text None = []
target_text (Some target) = or_slash target

-- the host of a target if it names one, else that of the header
abbrev pub host_text : Option (List ℕ) → Option (List ℕ) → Option (List ℕ)
host_text None header = header
host_text (Some authority) header = Some authority

-- These are the parts of the request.
pub record ArePartsOf (q : Request (List ℕ)) (p : Asked) : Type 0 where
  pub method : p.method.now ≡ (head_of q).method
  pub target : p.target.now ≡ target_text (uri_path_and_query (head_of q).uri)
  pub host : option_copied p.host ≡ host_text (uri_authority (head_of q).uri) (value_in (head_of q).headers (codes "host"))
  pub accept : option_copied p.accept ≡ value_in (head_of q).headers (codes "accept")
  pub mark : option_copied p.mark ≡ value_in (head_of q).headers (codes "x-cg-write")
  pub body : p.body.now ≡ body_of q
