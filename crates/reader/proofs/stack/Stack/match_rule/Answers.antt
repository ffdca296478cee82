-- `Stack::match_rule`: what a rule of another length, a word that differs, words that agree to the end, and no rule left tell of the search.
use Rattle.std.proofs.Common.{◌≡◌, ◌+◌, ◌-◌, ◌≤◌, ℕ, List, refl, sym, ap, ◌∙◌, arith, add-one, get_or, length-take, length-drop}
use Rattle.std.proofs.Math.Seq.{slice}
use Rattle.laws.specs.Least.{first_from}
use Rattle.moving.specs.Comparing.{body-next, part-slice, count_fits, same_length, same-there, counts-on, same-past, same-differ, same-both}
use Rattle.moving.specs.MatchWords.{has_right, same_words, handle_words, match_words, whole-rest}
use Rattle.moving.specs.OnStack.{stack-room}
use Rattle.moving.specs.Searches.{found_of, first-here, first_past}
use Rattle.reader.proofs.stack.Stack.match_rule.Goals as goal

pub outer-init : goal.outer-init
unfolding match_words
outer-init c =
    let p = c.requires.0 in
    let a = c.args in
    let e : get_or a.words.now 3 0 ≡ get_or a.words.now 3 0 - 0 = omega arith in (
      omega arith,
      ap (λ (n : ℕ). first_from (has_right a.words.now (handle_words a.self.area.now a.handle.start a.self.head)) n 0) e,
      p.within 0 p.some_rule,
      λ h. refl,
    )

pub overflow_add-start-in-outer : goal.overflow_add-start-in-outer
overflow_add-start-in-outer c = let p = c.requires in omega (arith, c.outer.invariant.2, count_fits p.1, stack-room c.args.self.stands.1, p.3)

pub outer-preserved-then-end-start : goal.outer-preserved-then-end-start
outer-preserved-then-end-start c =
    let a = c.args in
    let o = c.outer in
    let b = c.body_end-end in
    let l = c.if-rules-r.false in
    let handle = handle_words a.self.area.now a.handle.start a.self.head in
    let has : has_right a.words.now handle o.next ≡ same_words (slice (o.end + 1) b.result a.words.now) handle = rw (o.invariant.3 l, b.ensures.0, add-one) in (
      omega (arith, l),
      o.invariant.1
          ∙ first_past (has_right a.words.now handle) _ o.next l
          (has ∙ same_length a.words.now b.result b.ensures.1 a.self.area.now a.self.head (o.end + 1) a.handle.start c.requires.1 c.requires.2
          (λ q. c.if-end-start.true (omega (arith, q, c.requires.3)))),
      b.ensures.1,
      λ h. b.ensures.0 ∙ body-next a.words.now o.next h,
    )

pub loop-word-init : goal.loop-word-init
loop-word-init c =
    let a = c.args in
    let o = c.outer in
    let b = c.body_end-end in
    let n = c.if-end-start.false in
    let handle = handle_words a.self.area.now a.handle.start a.self.head in
    let start : o.end + 1 ≤ b.result = omega (arith, n) in
    let has : has_right a.words.now handle o.next ≡ same_words (slice (o.end + 1) b.result a.words.now) handle
    = rw (o.invariant.3 c.if-rules-r.false, b.ensures.0, add-one) in (
      c.requires.1,
      has ∙ ap (λ (w : List ℕ). same_words w handle) (sym (part-slice a.words.now (o.end + 1) b.result start)),
      simp (length-take, length-drop) (omega (arith, n, b.ensures.1, c.requires.3)),
    )

pub slot_word-requires : goal.slot_word-requires
slot_word-requires c =
    let v = c.loop-word.invariant in
    let l = same-there _ _ _ _ _ v.0 c.loop-word-test.true v.2 in
    (c.args.self.stands.0, omega (arith, l, stack-room c.args.self.stands.1))

pub outer-preserved : goal.outer-preserved
outer-preserved c =
    let a = c.args in
    let o = c.outer in
    let b = c.body_end-end in
    let v = c.loop-word in
    let l = c.if-rules-r.false in (
      omega (arith, l),
      o.invariant.1
          ∙ first_past (has_right a.words.now (handle_words a.self.area.now a.handle.start a.self.head)) _ o.next l
          (v.invariant.1 ∙ same-differ _ a.self.area.now a.self.head v.word-index v.slot v.invariant.0 c.loop-word-test.true v.invariant.2
          (λ q. c.if-word-slot_word.true (q ∙ sym c.slot_word.ensures))),
      b.ensures.1,
      λ h. b.ensures.0 ∙ body-next a.words.now o.next h,
    )

pub slot_word-requires-in-loop-word : goal.slot_word-requires-in-loop-word
slot_word-requires-in-loop-word c =
    let v = c.loop-word.invariant in
    let l = same-there _ _ _ _ _ v.0 c.loop-word-test.true v.2 in
    (c.args.self.stands.0, omega (arith, l, stack-room c.args.self.stands.1))

pub loop-word-preserved : goal.loop-word-preserved
loop-word-preserved c =
    let a = c.args in
    let v = c.loop-word in
    let t = c.loop-word-test.true in
    let i = v.invariant in
    rw c.slot_word-in-loop-word.ensures (
      whole-rest i.0 (same-there _ _ _ _ _ i.0 t i.2),
      i.1 ∙ same-past _ a.self.area.now a.self.head v.word-index v.slot i.0 t i.2 (c.if-word-slot_word.false ∙ c.slot_word.ensures),
      counts-on _ a.self.area.now a.self.head v.word-index v.slot i.0 t i.2,
    )

pub returns-after-loop-word : goal.returns-after-loop-word
returns-after-loop-word c =
    let a = c.args in
    let o = c.outer in
    let v = c.loop-word in
    let same = v.invariant.1 ∙ same-both _ a.self.area.now a.self.head v.word-index v.slot v.invariant.0 c.loop-word-test.false v.invariant.2 in
    let has = has_right a.words.now (handle_words a.self.area.now a.handle.start a.self.head) in
    sym (ap found_of (o.invariant.1 ∙ first-here has _ o.next c.if-rules-r.false same))
