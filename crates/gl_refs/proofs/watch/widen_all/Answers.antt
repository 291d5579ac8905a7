use Rattle.std.proofs.Common.{◌≡◌, true, take, sym, subst, add-one}
use Rattle.gl_arena.specs.Id.{Id}
use Rattle.gl_refs.specs.Forms.{Each}
use Rattle.gl_refs.specs.Watch.{within, span_at}
use Rattle.gl_refs.proofs.Meanings.{each_map}
use Rattle.gl_refs.proofs.Watching.{each_more}
use Rattle.gl_refs.proofs.watch.widen_all.Goals as goal

pub loop-tag-preserved : goal.loop-tag-preserved
loop-tag-preserved c =
    let tags = c.args.tags.now in
    let n = c.args.number in
    let k = c.loop-tag.tag-index in
    let old = c.loop-tag.spans.items in
    let P : Id → Type 0 = λ t. within (span_at c.widen.new.spans.items t.0) n ≡ true in
    let here : P c.tag-item.result = subst (λ p. within (span_at c.widen.new.spans.items p) n ≡ true) c.place.ensures (c.widen.ensures.widened c.if-not-widen.false) in
    record {
      widened = subst (λ m. Each P (take m tags)) (sym (add-one k)) (each_more P tags k c.tag-item.result (subst P c.tag-item.is here)
          (each_map (λ t. within (span_at old t.0) n ≡ true) P (take k tags) (λ t h. c.widen.ensures.wider t.0 n h) c.loop-tag.invariant.widened));
      wider = λ p m h. c.widen.ensures.wider p m (c.loop-tag.invariant.wider p m h);
    }
