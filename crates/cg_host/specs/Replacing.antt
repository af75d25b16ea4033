-- The path and the link of a new file that is to replace another.
use Rattle.std.specs.Prelude.{ℕ, List, ◌++◌, codes, string_bytes}
use Rattle.cg_links.specs.declared.counted.Counted.{Counted}
use Rattle.cg_host.specs.declared.replacing.Replacement.{Replacement}

-- the path of the new file
abbrev pub aside_of : List ℕ → List ℕ
aside_of path = path ++ codes ".new"

abbrev pub link_in : {F : Type 0} → Replacement F → Counted F
link_in r = r.link

abbrev pub aside_path : {F : Type 0} → Replacement F → List ℕ
aside_path r = string_bytes r.aside
