-- Whatever stack stands there, its topmost terminal is in what is left (`Down`). The measure is the slots left.
use Rattle.std.proofs.Common.{◌≡◌, List}
use Rattle.language.specs.Trees.{Span}
use Rattle.machine.specs.Entries.{Entry, top_terminal}
use Rattle.moving.specs.ReadWords.{Holds}
use Rattle.moving.specs.Walks.{Down}
use Rattle.reader.proofs.stack.Stack.top_terminal.Given as goal

abbrev pub invariant-loop-rest : goal.invariant-loop-rest
invariant-loop-rest l =
    (l.rest.area.now ≡ l.fn.self.area.now) × (l.rest.from ≡ l.fn.self.from)
    × ((stack : List (Entry Span)) → Holds l.fn.self.area.now l.fn.self.from l.fn.self.head stack
    → Down _ top_terminal l.fn.self.area.now l.fn.self.from l.rest.head stack)

abbrev pub decreases-loop-rest : goal.decreases-loop-rest
decreases-loop-rest l = l.rest.head
