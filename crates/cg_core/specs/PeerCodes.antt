-- The code of the peers of a round, by which `==` tells them apart.
use Rattle.std.specs.Prelude.{ℕ, List}
use Rattle.std.specs.Coded.{Coded, coded_ℕ, coded_list}

abbrev pub peers_code : Coded (List ℕ)
peers_code = coded_list coded_ℕ
