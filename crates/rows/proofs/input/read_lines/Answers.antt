-- A piece more is read and fed, and the limits stay; reading ends where the input or the text does.
use Rattle.std.proofs.Common.{◌≡◌, ◌<◌, ◌-◌, ◌+◌, ◌^◌, true, false, length, take, is_some, refl, sym, ap, ◌∙◌, subst, arith, length-take}
use Rattle.text.specs.declared.reading.Held.{Held}
use Rattle.text.specs.FedLimits.{InLimits, limits-start, limits-fed}
use Rattle.rows.proofs.Reading.{nothing-read, piece-read, read-to-end, read-to-answer, read-to-turns}
use Rattle.rows.proofs.input.read_lines.Goals as goal
use Rattle.rows.proofs.input.read_lines.Goals.{then-loop-test+then-is_some, then-loop-test+else-is_some+in_ok-n+then-n-eq0, else-loop-test}

pub loop-init : goal.loop-init
loop-init g c =
    let h = c.args.held.now in
    record {
      so_far = nothing-read h.words h.tokens h.cuts (g.R.Read.remaining c.args.input.now) c.start-held.result c.start-held.ensures;
      in_limits = subst InLimits (sym c.start-held.ensures) limits-start;
      piece_length = refl;
    }

pub loop-preserved : goal.loop-preserved
loop-preserved g c =
    let h = c.args.held.now in
    let l = c.loop in
    let piece = take c.in_ok-n.n c.read_piece.new.piece in
    let some : 0 < length piece = simp length-take (omega (arith, c.if-n-eq0.false, c.in_ok-n.ensures.bound)) in
    record {
      so_far =
          piece-read h.words h.tokens h.cuts (g.R.Read.remaining c.args.input.now) (g.R.Read.remaining l.input) (g.R.Read.remaining c.read_piece.new.input) l.held
          c.feed_piece.new.self
          (2 ^ 64 - 1 - l.counter)
          (2 ^ 64 - 1 - (l.counter + 1))
          piece
          l.invariant.so_far
          c.in_ok-n.ensures.bytes.0
          c.feed_piece.ensures
          some
          (omega arith);
      in_limits = subst (λ (k : Held). InLimits k.state) (sym c.feed_piece.ensures) (limits-fed piece l.held l.invariant.in_limits);
      piece_length = omega arith;
    }

pub returns-clause-reads : goal.returns-clause-reads
returns-clause-reads g c =
    λ room.
    let h = c.args.held.now in
    let l = c.loop in
    let known = g.R.Read.remaining c.args.input.now in
    let left = g.R.Read.remaining l.input in
    let turns = 2 ^ 64 - 1 - l.counter in
    elim c.loop-test.branch [
      | then-loop-test+then-is_some w ↦
          read-to-answer h.words h.tokens h.cuts known left l.held turns c.finish.result l.invariant.so_far
          (λ e. let f : true ≡ false = sym w.if-is_some.true ∙ w.is_some.ensures ∙ ap is_some (w.answer.ensures ∙ e) in cc)
          c.finish.ensures
      | then-loop-test+else-is_some+in_ok-n+then-n-eq0 w ↦
          read-to-end h.words h.tokens h.cuts known left (g.R.Read.remaining w.read_piece.new.input) l.held turns c.finish.result l.invariant.so_far
          (rw w.if-n-eq0.true at w.in_ok-n.ensures.bytes.0)
          (w.in_ok-n.ensures.bytes.1 w.if-n-eq0.true (omega arith))
          c.finish.ensures
      | else-loop-test w ↦ read-to-turns h.words h.tokens h.cuts known left l.held turns c.finish.result l.invariant.so_far (omega arith) c.finish.ensures
    ]
