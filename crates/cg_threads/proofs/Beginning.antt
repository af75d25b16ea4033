-- A worker that did not begin is none that did.
use Rattle.std.proofs.Common.{◌≡◌, true, false}

pub no_false : false ≡ true → ⊥
no_false e = cc
