-- The methods of resources.
use Rattle.std.specs.Prelude.{ℕ, Bool, true, false, ◌||◌, List, codes, bytes_eq}
use Rattle.cg_http.specs.declared.call.Resource.{Resource}
use Rattle.cg_http.specs.declared.call.Resource.TheVariants.{Page, Status, Printed, Replicas, Metrics, Health, State, Stop}
use Rattle.cg_http.specs.declared.call.Methods.{Methods}
use Rattle.cg_http.specs.declared.call.Methods.TheVariants.{Read, Change, Post}

abbrev pub methods_of : Resource → Methods
methods_of Page = Read
methods_of Status = Read
methods_of (Printed view) = Read
methods_of Replicas = Read
methods_of Metrics = Read
methods_of Health = Read
methods_of (State key) = Change
methods_of Stop = Post

unfoldable pub has_method : Methods → List ℕ → Bool
has_method Read method = bytes_eq method (codes "GET") || bytes_eq method (codes "HEAD")
has_method Change method = bytes_eq method (codes "PUT") || bytes_eq method (codes "DELETE")
has_method Post method = bytes_eq method (codes "POST")

abbrev pub are_writes : Methods → Bool
are_writes Read = false
are_writes Change = true
are_writes Post = true

-- the methods, as the header `allow` has them
unfoldable pub allow_text : Methods → List ℕ
allow_text Read = codes "GET, HEAD"
allow_text Change = codes "PUT, DELETE"
allow_text Post = codes "POST"
