use Rattle.std.proofs.Common.{◌≡◌, ◌++◌, Ok, Err, None, Some, sym, ap, subst, ◌∙◌, string_bytes}
use Rattle.std.specs.Prelude.{Result, IfOk, OnOk}
use Rattle.std.specs.Str.{chars}
use Rattle.gl_meaning.specs.Laws.{NoRepeat}
use Rattle.gl_opc.specs.Piece.{missing}
use Rattle.gl_opc.proofs.NamePlaces.{seen}
use Rattle.gl_opc.proofs.Pools.{found_in, none_missing, seen_with, once_added, lengths}
use Rattle.gl_opc.proofs.pool.Pool.put.Goals as goal

always : {A E P : Type 0} (r : Result A E) → P → OnOk r P
always (Ok x) h = h
always (Err e) h = tt

pub returns-in-Some-clause-place : goal.returns-in-Some-clause-place
returns-in-Some-clause-place c =
    let found = found_in c.as_str.result.now c.as_str.ensures.utf8 c.self.inside.set.keys _ _ c.as_str.ensures.value c.self.view_is (Some c.in-Some.place) c.in-Some.ensures.index in
    subst (λ p. IfOk c.number32.result (λ i. i ≡ p)) found.1 c.number32.ensures

pub returns-in-Some-clause-added : goal.returns-in-Some-clause-added
returns-in-Some-clause-added c =
    let found = found_in c.as_str.result.now c.as_str.ensures.utf8 c.self.inside.set.keys _ _ c.as_str.ensures.value c.self.view_is (Some c.in-Some.place) c.in-Some.ensures.index in
    always c.number32.result (none_missing c.args.text.now c.args.self.now found.0)

pub returns-clause-place : goal.returns-clause-place
returns-clause-place c =
    let found = found_in c.as_str.result.now c.as_str.ensures.utf8 c.self.inside.set.keys _ _ c.as_str.ensures.value c.self.view_is None c.in_default.ensures.index in
    c.in_ok-place.ensures ∙ (c.len.ensures.len ∙ (lengths c.self.inside.set.keys c.args.self.now c.self.view_is ∙ found.1))

pub returns-clause-added : goal.returns-clause-added
returns-clause-added c =
    let key : chars (string_bytes c.in_ok-key.key) ≡ c.args.text.now = ap chars c.in_ok-key.ensures.ok ∙ c.as_str-2.ensures.value in
    ap seen c.in_ok-insert.ensures.keys ∙ seen_with c.self.inside.set.keys c.in_ok-key.key _ _ key c.self.view_is

pub invariant_of-self-2 : goal.invariant_of-self-2
invariant_of-self-2 c =
    let key : chars (string_bytes c.in_ok-key.key) ≡ c.args.text.now = ap chars c.in_ok-key.ensures.ok ∙ c.as_str-2.ensures.value in
    subst NoRepeat (sym (ap seen c.in_ok-insert.ensures.keys ∙ seen_with c.self.inside.set.keys c.in_ok-key.key _ _ key c.self.view_is))
    (once_added c.args.text.now c.args.self.now (subst NoRepeat c.self.view_is c.self.invariant))
