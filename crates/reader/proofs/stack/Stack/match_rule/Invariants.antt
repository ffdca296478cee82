-- `Stack::match_rule`. The outer loop: the search from rule 0 is the search from `next`, whose body starts at `end`. The inner one: the rest of the right
-- side against the rest of the handle decides, and they are equally long. The measure is the rules left.
use Rattle.std.proofs.Common.{◌≡◌, ◌+◌, ◌-◌, ◌<◌, ◌≤◌, length, drop}
use Rattle.laws.specs.Least.{first_from}
use Rattle.language.specs.Words.{entry}
use Rattle.moving.specs.MatchWords.{Whole, has_right, same_words, handle_words, match_words}
use Rattle.reader.proofs.stack.Stack.match_rule.Given as goal

abbrev pub invariant-loop-word : goal.invariant-loop-word
invariant-loop-word l =
    Whole l.fn.self.area.now l.fn.self.head l.slot
    × (has_right l.words (handle_words l.fn.self.area.now l.fn.handle.start l.fn.self.head) l.r
    ≡ same_words (drop l.word-index l.word-items) (handle_words l.fn.self.area.now l.slot l.fn.self.head))
    × (l.word-index + length (handle_words l.fn.self.area.now l.slot l.fn.self.head) ≡ length l.word-items)

abbrev pub invariant-outer : goal.invariant-outer
invariant-outer l =
    (l.next ≤ l.rules)
    × (match_words l.words (handle_words l.fn.self.area.now l.fn.handle.start l.fn.self.head)
    ≡ first_from (has_right l.words (handle_words l.fn.self.area.now l.fn.handle.start l.fn.self.head)) (l.rules - l.next) l.next)
    × (l.end ≤ length l.words) × (l.next < l.rules → l.end ≡ entry l.words l.next)

abbrev pub decreases-outer : goal.decreases-outer
decreases-outer l = l.rules - l.next
