-- Links for trials as contracts see them.
use Rattle.std.specs.Prelude.{ℕ}
use Rattle.cg_links.specs.declared.trials.FailingLink.{FailingLink}
use Rattle.cg_links.specs.declared.trials.SlowLink.{SlowLink}
use Rattle.cg_links.specs.declared.trials.CountingLink.{CountingLink}

-- ---- a link of which one call fails

abbrev pub link_of_failing : {L : Type 0} → FailingLink L → L
link_of_failing f = f.link

-- the number of its calls
abbrev pub calls_of_failing : {L : Type 0} → FailingLink L → ℕ
calls_of_failing f = f.calls

-- the number of the call that fails
abbrev pub turn_of : {L : Type 0} → FailingLink L → ℕ
turn_of f = f.turn

-- ---- a link that moves a byte a call

abbrev pub link_of_slow : {L : Type 0} → SlowLink L → L
link_of_slow s = s.link

-- ---- a link that counts its calls

abbrev pub link_of_counting : {L : Type 0} → CountingLink L → L
link_of_counting c = c.link

abbrev pub reads_of : {L : Type 0} → CountingLink L → ℕ
reads_of c = c.reads

abbrev pub writes_of : {L : Type 0} → CountingLink L → ℕ
writes_of c = c.writes

abbrev pub flushes_of : {L : Type 0} → CountingLink L → ℕ
flushes_of c = c.flushes

-- the most bytes that one read had room for
abbrev pub most_asked_of : {L : Type 0} → CountingLink L → ℕ
most_asked_of c = c.most_asked
