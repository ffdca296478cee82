-- `Stack::find_handle`: whatever stack stands there, its topmost mark is in what is left, and what is left and the symbols counted are together its
-- symbols (`Counted`); there are no more of these than slots passed. The measure is the slots left.
use Rattle.std.proofs.Common.{◌≡◌, ◌+◌, ◌≤◌, List}
use Rattle.language.specs.Trees.{Span}
use Rattle.machine.specs.Entries.{Entry}
use Rattle.moving.specs.ReadWords.{Holds}
use Rattle.moving.specs.Walks.{Counted}
use Rattle.reader.proofs.stack.Stack.find_handle.Given as goal

abbrev pub invariant-loop-rest : goal.invariant-loop-rest
invariant-loop-rest l =
    (l.rest.area.now ≡ l.fn.self.area.now) × (l.rest.from ≡ l.fn.self.from) × (l.count + l.rest.head ≤ l.fn.self.head)
    × ((stack : List (Entry Span)) → Holds l.fn.self.area.now l.fn.self.from l.fn.self.head stack
    → Counted l.fn.self.area.now l.fn.self.from l.rest.head l.count stack)

abbrev pub decreases-loop-rest : goal.decreases-loop-rest
decreases-loop-rest l = l.rest.head
