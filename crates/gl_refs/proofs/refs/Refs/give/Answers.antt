use Rattle.std.proofs.Common.{◌≡◌, true, false, ◌∙◌, refl, sym, subst, ◌⊎◌, inl, inr}
use Rattle.gl_value.specs.View.{view}
use Rattle.gl_refs.specs.State.{forms, is_item}
use Rattle.gl_refs.specs.Refs.{Refs, forms_of, Holds, SetsValue}
use Rattle.gl_refs.specs.View as code
use Rattle.gl_refs.proofs.Seen.{of_seen, item_is, sets_value, holds_seen, held_seen, before, after}
use Rattle.gl_refs.proofs.refs.Refs.give.Goals as goal

pub returns-then-not-holds : goal.returns-then-not-holds
returns-then-not-holds c =
    let s = c.self.inside in
    let v = view c.args.value in
    let item = item_is (code.rows_of s.rows c.args.item) (of_seen (λ x. is_item (forms x c.args.item) ≡ true) s.rows (subst (λ (r : Refs). is_item (forms_of r c.args.item) ≡ true) (sym c.self.view_is) c.requires.item)) in
    let new = after s.rows c.put.new.rows s.tags c.put.new.tags s.evals s.asks s.evaluated.items c.args.item in
    subst (λ (r : Refs). (Holds r c.args.item true v × (new ≡ r)) ⊎ ((Holds r c.args.item true v → ⊥) × SetsValue r new c.args.item true v)) c.self.view_is
    (inr (λ h. absurd (let n : true ≡ false = sym (c.holds.ensures.1 (held_seen s.rows c.put.new.rows s.tags c.put.new.tags s.evals s.asks s.evaluated.items c.args.item v h)) ∙ c.if-not-holds.true in cc), sets_value s.rows c.put.new.rows s.tags c.put.new.tags s.evals s.asks s.evaluated.items c.args.item true v item c.put.ensures.tags c.put.ensures.rows))

pub returns-else-not-holds : goal.returns-else-not-holds
returns-else-not-holds c =
    let s = c.self.inside in
    let v = view c.args.value in
    let item = item_is (code.rows_of s.rows c.args.item) (of_seen (λ x. is_item (forms x c.args.item) ≡ true) s.rows (subst (λ (r : Refs). is_item (forms_of r c.args.item) ≡ true) (sym c.self.view_is) c.requires.item)) in
    let old = before s.rows s.rows s.tags s.tags s.evals s.asks s.evaluated.items c.args.item in
    let new = c.args.self.now in
    inl (subst (λ (r : Refs). Holds r c.args.item true v) c.self.view_is (holds_seen s.rows s.rows s.tags s.tags s.evals s.asks s.evaluated.items c.args.item v item (c.holds.ensures.0 c.if-not-holds.false)), refl)
