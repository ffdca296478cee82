-- 15 first, then 7 to 11, of which the searches give 9 and 10; where none is given the row's words are written, and else nothing.
use Rattle.std.proofs.Common.{sym, ap, ◌∙◌, length}
use Rattle.language.specs.Words.{count_t, outside}
use Rattle.start.specs.StartChecks.{found, first-position, some_word, broken-grammar, no_token, many-tokens, bad-token, bad-cut, small-room, enough-room, writable}
use Rattle.start.proofs.StartLaw.{area_kept, area-started}
use Rattle.start.proofs.start.Goals as goal

pub returns-then-not-grammar_in_shape : goal.returns-then-not-grammar_in_shape
returns-then-not-grammar_in_shape c =
    let e = broken-grammar c.args.words.now c.args.matrix.now c.args.tokens.now c.args.cuts.now (length c.args.area.now) (sym c.grammar_in_shape.ensures ∙ c.if-not-grammar_in_shape.true) in
    record { answers = e; leaves = area_kept c.args.words.now c.args.matrix.now c.args.tokens.now c.args.cuts.now c.args.area.now _ e }

pub returns-then-n-eq0 : goal.returns-then-n-eq0
returns-then-n-eq0 c =
    let e = no_token c.args.words.now c.args.matrix.now c.args.tokens.now c.args.cuts.now (length c.args.area.now) (sym c.grammar_in_shape.ensures ∙ c.if-not-grammar_in_shape.false) c.if-n-eq0.true in
    record { answers = e; leaves = area_kept c.args.words.now c.args.matrix.now c.args.tokens.now c.args.cuts.now c.args.area.now _ e }

pub returns-then-n-gt16384 : goal.returns-then-n-gt16384
returns-then-n-gt16384 c =
    let e = many-tokens c.args.words.now c.args.matrix.now c.args.tokens.now c.args.cuts.now (length c.args.area.now) (sym c.grammar_in_shape.ensures ∙ c.if-not-grammar_in_shape.false) c.if-n-eq0.false c.if-n-gt16384.true in
    record { answers = e; leaves = area_kept c.args.words.now c.args.matrix.now c.args.tokens.now c.args.cuts.now c.args.area.now _ e }

pub bounds-words-0 : goal.bounds-words-0
bounds-words-0 c = some_word c.args.words.now c.args.matrix.now (sym c.grammar_in_shape.ensures ∙ c.if-not-grammar_in_shape.false)

pub returns-in-Some : goal.returns-in-Some
returns-in-Some c =
    let e = bad-token c.args.words.now c.args.matrix.now c.args.tokens.now c.args.cuts.now (length c.args.area.now) (sym c.grammar_in_shape.ensures ∙ c.if-not-grammar_in_shape.false) c.if-n-eq0.false c.if-n-gt16384.false
    c.first_bad_token.result (first-position (outside 1 (count_t c.args.words.now)) c.args.tokens.now ∙ ap found (sym c.first_bad_token.ensures)) _ c.in-Some.is in
    record { answers = e; leaves = area_kept c.args.words.now c.args.matrix.now c.args.tokens.now c.args.cuts.now c.args.area.now _ e }

pub returns-in-Some-first_bad_cut : goal.returns-in-Some-first_bad_cut
returns-in-Some-first_bad_cut c =
    let e = bad-cut c.args.words.now c.args.matrix.now c.args.tokens.now c.args.cuts.now (length c.args.area.now) (sym c.grammar_in_shape.ensures ∙ c.if-not-grammar_in_shape.false) c.if-n-eq0.false c.if-n-gt16384.false
    c.first_bad_token.result (first-position (outside 1 (count_t c.args.words.now)) c.args.tokens.now ∙ ap found (sym c.first_bad_token.ensures)) c.in_default.is
    c.first_bad_cut.result (sym c.first_bad_cut.ensures.bad) _ c.in-Some-first_bad_cut.is in
    record { answers = e; leaves = area_kept c.args.words.now c.args.matrix.now c.args.tokens.now c.args.cuts.now c.args.area.now _ e }

pub returns-then-area-needed : goal.returns-then-area-needed
returns-then-area-needed c =
    let e = small-room c.args.words.now c.args.matrix.now c.args.tokens.now c.args.cuts.now (length c.args.area.now) (sym c.grammar_in_shape.ensures ∙ c.if-not-grammar_in_shape.false) c.if-n-eq0.false c.if-n-gt16384.false
    c.first_bad_token.result (first-position (outside 1 (count_t c.args.words.now)) c.args.tokens.now ∙ ap found (sym c.first_bad_token.ensures)) c.in_default.is
    c.first_bad_cut.result (sym c.first_bad_cut.ensures.bad) c.in_default-first_bad_cut.is c.if-area-needed.true in
    record { answers = e; leaves = area_kept c.args.words.now c.args.matrix.now c.args.tokens.now c.args.cuts.now c.args.area.now _ e }

pub write-requires : goal.write-requires
write-requires c =
    writable c.args.words.now c.args.matrix.now c.args.tokens.now c.args.cuts.now (length c.args.area.now) (sym (enough-room c.args.words.now c.args.matrix.now c.args.tokens.now c.args.cuts.now (length c.args.area.now) (sym c.grammar_in_shape.ensures ∙ c.if-not-grammar_in_shape.false) c.if-n-eq0.false c.if-n-gt16384.false
    c.first_bad_token.result (first-position (outside 1 (count_t c.args.words.now)) c.args.tokens.now ∙ ap found (sym c.first_bad_token.ensures)) c.in_default.is
    c.first_bad_cut.result (sym c.first_bad_cut.ensures.bad) c.in_default-first_bad_cut.is c.if-area-needed.false))

pub returns : goal.returns
returns c =
    let e = enough-room c.args.words.now c.args.matrix.now c.args.tokens.now c.args.cuts.now (length c.args.area.now) (sym c.grammar_in_shape.ensures ∙ c.if-not-grammar_in_shape.false) c.if-n-eq0.false c.if-n-gt16384.false
    c.first_bad_token.result (first-position (outside 1 (count_t c.args.words.now)) c.args.tokens.now ∙ ap found (sym c.first_bad_token.ensures)) c.in_default.is
    c.first_bad_cut.result (sym c.first_bad_cut.ensures.bad) c.in_default-first_bad_cut.is c.if-area-needed.false in
    record { answers = e; leaves = c.write.ensures ∙ area-started c.args.words.now c.args.matrix.now c.args.tokens.now c.args.cuts.now c.args.area.now e }
