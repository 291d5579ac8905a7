use Rattle.std.proofs.Common.{◌≡◌, ℕ, true, take}
use Rattle.gl_refs.specs.Forms.{Each}
use Rattle.gl_refs.specs.Watch.{within, span_at}
use Rattle.gl_refs.proofs.watch.widen_all.Given as goal

abbrev pub invariant-loop-tag : goal.invariant-loop-tag
invariant-loop-tag l = record {
  widened : Each (λ t. within (span_at l.spans.items t.0) l.number ≡ true) (take l.tag-index l.tags);
  wider : (p n : ℕ) → within (span_at l.fn.spans.items p) n ≡ true → within (span_at l.spans.items p) n ≡ true;
}
