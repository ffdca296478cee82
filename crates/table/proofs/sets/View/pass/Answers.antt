-- What one rule gains keeps the masks sound, and rests where it changes nothing.
use Rattle.std.proofs.Common.{◌<◌, arith}
use Rattle.language.specs.Words.{count_r}
use Rattle.table.specs.Sided.{from_end, side-rules}
use Rattle.table.specs.SetPasses.{gained, grown-none, grown-more, gained-sound}
use Rattle.table.proofs.sets.View.pass.Goals as goal

pub loop-r-init : goal.loop-r-init
loop-r-init c = record { sound = c.requires; grown = grown-none _ _ }

pub loop-r-preserved : goal.loop-r-preserved
loop-r-preserved c =
    let v = c.args.self.now in
    let words = v.grammar.words.now in
    let l = c.loop-r in
    let g = c.gain-changed in
    let below : l.r < count_r words = omega arith in
    record {
      sound = rw g.ensures.is (gained-sound (side-rules words v.grammar.passed (from_end v.side)) l.masks l.r below l.invariant.sound.rows l.invariant.sound);
      grown = grown-more (gained words (from_end v.side)) c.args.masks.now l.masks g.new.masks l.r g.ensures.is l.invariant.grown g.ensures.changed;
    }
