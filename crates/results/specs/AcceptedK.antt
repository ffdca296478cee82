-- Grammar K of document 01 is accepted, so every theorem of demands 2 and 3 speaks of it with no hypothesis left.
-- Document 01, "Sample rows". Computed from the definitions.
-- Rests on SamplesK, on machine's TableOf, and on language's Loads and CheckSamples.
--
-- Main statements: K-accepted, K-laws, K-end-mark.
use Rattle.std.proofs.Common.{lit<}
use Rattle.language.specs.Words.{grammar_of}
use Rattle.language.proofs.Checks.{words-pass}
use Rattle.language.specs.CheckSamples.{words_k}
use Rattle.language.proofs.CheckSamples.{K-passes}
use Rattle.language.proofs.WordsInRange.{in_range}
use Rattle.language.proofs.Conflicts.{conflict-none}
use Rattle.results.specs.SamplesK.{words-K, conflict-K}
use Rattle.language.specs.Loads.{Accepted}
use Rattle.machine.specs.Laws.{EndMark, Laws}
use Rattle.machine.specs.TableOf.{own_table}
use Rattle.machine.proofs.TableOf.{own-end-mark, own-laws}

pub K-accepted : Accepted words_k
K-accepted =
    let passed = (words-pass words_k).0 K-passes in
    let range = in_range words_k passed.head passed.symbols in
    record { passed = passed; free = (conflict-none range (rw words-K (lit< tt))).0 (rw words-K conflict-K) }

pub K-end-mark : EndMark (own_table words_k)
K-end-mark = own-end-mark K-accepted

pub K-laws : Laws (grammar_of words_k) (own_table words_k)
K-laws = own-laws K-accepted
