-- Where the entry's tokens stand is within the tokens, and they are its tokens.
use Rattle.std.proofs.Common.{◌≤◌, length, arith, rules}
use Rattle.report.proofs.EntryLaw.{place-within, tokens-there}
use Rattle.report.proofs.entry_tokens.Goals as goal
use Rattle.report.proofs.entry_tokens.Goals.{After-entry_range}

within : (c : After-entry_range) → (c.entry_range.result.start ≤ c.entry_range.result.end) × (c.entry_range.result.end ≤ length c.args.tokens.now)
within c =
    let h = place-within c.args.report.now c.args.entry (length c.args.tokens.now) in
    (omega (arith, c.entry_range.ensures.start, c.entry_range.ensures.end, h.0), omega (arith, c.entry_range.ensures.end, h.1))

pub offset_bounds-tokens-entry_range : goal.offset_bounds-tokens-entry_range
offset_bounds-tokens-entry_range c = let h = within c in let i = h.0 in let j = h.1 in search rules

pub slice_bounds-result-count : goal.slice_bounds-result-count
slice_bounds-result-count c = (within c).0

pub slice_bounds-result-start : goal.slice_bounds-result-start
slice_bounds-result-start c = let h = within c in let i = h.0 in let j = h.1 in search rules

pub slice_bounds-result-end : goal.slice_bounds-result-end
slice_bounds-result-end c = let h = within c in let i = h.0 in let j = h.1 in search rules

pub returns-clause-result_value : goal.returns-clause-result_value
returns-clause-result_value c = let h = tokens-there c.args.report.now c.args.entry c.args.tokens.now in rw (c.entry_range.ensures.start, c.entry_range.ensures.end) h
