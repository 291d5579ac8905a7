-- Blocks that are passed: what is read is spelled, and what is spelled is read, where that holds of their bodies.
use Rattle.std.proofs.Common.{◌≡◌, ◌≤◌, ℕ, zero, suc, List, [], ◌∷◌, Bool, true, false, Some, None, length, refl, ap, subst, ◌∙◌, arith}
use Rattle.gl_base.specs.Answers.{◌>>=◌}
use Rattle.gl_base.specs.Texts.{Text}
use Rattle.gl_ast.specs.Grammar.{Mark, AreStmts, AreSlots, IsSlot, IsSlotOpening, AreParameters, after_gaps, are_new, is_some_slot, slot_names}
use Rattle.gl_ast.specs.Template.{Body, Slots, no_slots, block, slots_of}
use Rattle.gl_ast.specs.declared.token.Token.{Token}
use Rattle.gl_ast.specs.declared.token.TokenKind.TheVariants as k
use Rattle.gl_exprs.specs.Take.{Taken, take_kind, read_many}
use Rattle.gl_exprs.proofs.Chains.{Chain, many_started, IsRead, chain_many}
use Rattle.gl_exprs.proofs.FirstTokens.{took, took_mark, takes_mark, takes_some, stands_mark, test_some}
use Rattle.gl_exprs.proofs.Takings.{first_gave, some_is}
use Rattle.gl_parse.specs.ReadStmt.{Reader, slot_name, stands_slot, stands_next, read_next, names_in, read_parameters, take_end_tag, read_slot_opening, read_slot, read_slots}
use Rattle.gl_parse.proofs.Falls.{Falls, slot_falls}
use Rattle.gl_parse.proofs.Gaps.{gaps_leave, opening_stands, slots_list, slots_of-list, list_names, of_names}
use Rattle.gl_parse.proofs.Labels.{slot_name_is, names_slot}
use Rattle.gl_parse.proofs.TagLaws.{Sound, Complete, SoundFilling, CompleteFilling, took_end_tag, takes_end_tag, end_tag_ends, read_parameters_are, reads_parameters}

abbrev pub Named : Type 0
Named = Text × (List Text × Body)

-- an opening and its end
abbrev Opened : List Token → (Text × List Text) × List Token → Type 0
Opened ts p = (vs ws : List Token) × IsSlotOpening ts p.0.0 vs × AreParameters vs p.0.1 ws × Mark k.TagEnd ws p.1

opening_is : (ts : List Token) (p : (Text × List Text) × List Token) → read_slot_opening ts ≡ Some p → Opened ts p
unfolding read_slot_opening
opening_is ts p e =
    let opening = first_gave (take_kind k.TagOpening ts) _ p e in
    let name = first_gave (slot_name opening.0.0) _ p opening.2 in
    let names = first_gave (read_parameters opening.0.1) _ p name.2 in
    let mark = first_gave (take_kind k.TagEnd names.0.1) _ p names.2 in
    let t = took k.TagOpening ts opening.0 opening.1 in
    subst (Opened ts) (some_is _ _ mark.2)
    (opening.0.1, names.0.1, (t.0, t.1, t.2, t.3 ∙ slot_name_is opening.0.0 name.0 name.1), read_parameters_are opening.0.1 names.0 names.1, took_mark k.TagEnd names.0.1 mark.0 mark.1)

reads_opening : (ts : List Token) (name : Text) (ns : List Text) (vs ws us : List Token) → IsSlotOpening ts name vs → AreParameters vs ns ws → Mark k.TagEnd ws us → read_slot_opening ts ≡ Some ((name, ns), us)
unfolding read_slot_opening
reads_opening ts name ns vs ws us m params n =
    rw (takes_some k.TagOpening _ ts vs m, names_slot m.0.text name m.3, reads_parameters vs ns ws (stands_mark k.TagEnd k.Parameters ws us n) params, takes_mark k.TagEnd ws us n) refl

-- one block
abbrev pub OneSlot : ℕ → List Token → Named → List Token → Type 0
OneSlot depth ts x us = IsSlot (λ xs ys. AreStmts depth xs x.1.1 ys) ts x.0 x.1.0 us

pub slot_is : (depth : ℕ) (inner : Reader Body) → Sound depth inner → (ts : List Token) (p : Named × List Token) → read_slot inner ts ≡ Some p → OneSlot depth ts p.0 p.1
unfolding read_slot
slot_is depth inner sound ts p e =
    let opening = first_gave (read_slot_opening ts) _ p e in
    let body = first_gave (inner opening.0.1) _ p opening.2 in
    let rest = first_gave (take_end_tag (58 ∷ opening.0.0.0) body.0.1) _ p body.2 in
    let o = opening_is ts opening.0 opening.1 in
    let P : Named × List Token → Type 0 = λ q. OneSlot depth ts q.0 q.1 in
    subst P (some_is _ _ rest.2)
    (o.0, o.1, opening.0.1, body.0.1, o.2, o.3, o.4, sound opening.0.1 body.0 body.1, took_end_tag (58 ∷ opening.0.0.0) body.0.1 rest.0 rest.1)

reads_slot : (depth : ℕ) (inner : Reader Body) → Complete depth inner → (ts : List Token) (x : Named) (us : List Token) → OneSlot depth ts x us → read_slot inner ts ≡ Some (x, us)
unfolding read_slot
reads_slot depth inner complete ts (name, (ns, b)) us (vs, ws, xs, ys, m, params, n, i, t) =
    rw (reads_opening ts name ns vs ws xs m params n, complete xs b ys (end_tag_ends (58 ∷ name) ys us t) i, takes_end_tag (58 ∷ name) ys us t) refl

-- several, each after gaps or none
abbrev NextSlot : ℕ → List Token → Named → List Token → Type 0
NextSlot depth ts x us = OneSlot depth (after_gaps ts) x us

chained_slots : (depth : ℕ) (xs : List Named) (ts vs : List Token) → Chain (NextSlot depth) ts xs vs → AreSlots (suc depth) ts (slots_of xs) (after_gaps vs)
chained_slots depth [] ts vs e = ap after_gaps e
chained_slots depth (x ∷ xs) ts vs (ws, is, more) = (ws, is, chained_slots depth xs ws vs more)

slots_chained : (depth : ℕ) (ss : Slots) (ts us : List Token) → AreSlots (suc depth) ts ss us → (vs : List Token) × Chain (NextSlot depth) ts (slots_list ss) vs × (after_gaps vs ≡ us)
slots_chained depth no_slots ts us e = (ts, refl, e)
slots_chained depth (block name ns b ss) ts us (ws, is, more) = let r = slots_chained depth ss ws us more in (r.0, (ws, is, r.1), r.2)

-- where one comes first, some are read
abbrev all_read : {A : Type 0} → Taken (List A) → List A
all_read None = []
all_read (Some p) = p.0

some_read : {A : Type 0} (starts : List Token → Bool) (one : List Token → Taken A) (n : ℕ) (ts us : List Token) → starts ts ≡ true → read_many starts one n ts ≡ Some ([], us) → ⊥
unfolding read_many
some_read starts one zero ts us e h = let r : ⊥ = cc in r
some_read {A} starts one (suc n) ts us e h = by_one (one ts) (rw e at h) where
  by_one : (o : Taken A) → ◌>>=◌ {B = List A × List Token} o (λ x. ◌>>=◌ {B = List A × List Token} (read_many starts one n x.1) (λ more. Some (x.0 ∷ more.0, more.1))) ≡ Some ([], us) → ⊥
  by_one None g = let r : ⊥ = cc in r
  by_one (Some x) g = by_more (read_many starts one n x.1) g where
    by_more : (o : Taken (List A)) → ◌>>=◌ {B = List A × List Token} o (λ more. Some (x.0 ∷ more.0, more.1)) ≡ Some ([], us) → ⊥
    by_more None f = let r : ⊥ = cc in r
    by_more (Some more) f = let e : x.0 ∷ more.0 ≡ [] = ap all_read f in let r : ⊥ = cc in r

some_slots : (inner : Reader Body) (n : ℕ) (ts : List Token) (xs : List Named) (us : List Token) → stands_next ts ≡ true → read_many stands_next (read_next inner) n ts ≡ Some (xs, us) → is_some_slot (slots_of xs) ≡ true
some_slots inner n ts [] us e h = absurd (some_read stands_next (read_next inner) n ts us e h)
some_slots inner n ts (x ∷ xs) us e h = refl

pub slots_sound : (depth : ℕ) (inner : Reader Body) → Sound depth inner → SoundFilling (suc depth) (read_slots inner)
unfolding read_slots
slots_sound depth inner sound ts p starts e =
    let many = first_gave (read_many stands_next (read_next inner) (length ts) ts) _ p e in
    let s = test_some (are_new [] (names_in many.0.0)) _ p many.2 in
    let chain = many_started stands_next (read_next inner) (NextSlot depth) (length ts) ts many.0 (λ us y going is. slot_is depth inner sound (after_gaps us) y is) many.1 in
    let P : Slots × List Token → Type 0 = λ q. (is_some_slot q.0 ≡ true) × (are_new [] (slot_names q.0) ≡ true) × AreSlots (suc depth) ts q.0 q.1 in
    subst P (some_is _ _ s.1) (some_slots inner (length ts) ts many.0.0 many.0.1 starts many.1, ap (are_new []) (of_names many.0.0) ∙ s.0, chained_slots depth many.0.0 ts many.0.1 chain)

-- anything may follow
abbrev Any : List Token → Type 0
Any ts = Unit {0}

pub slots_complete : (depth : ℕ) (inner : Reader Body) → Falls depth → Complete depth inner → CompleteFilling (suc depth) (read_slots inner)
unfolding read_slots
slots_complete depth inner falls complete ts ss us none some new are =
    let c = slots_chained depth ss ts us are in
    let ends : stands_next c.0 ≡ false = ap stands_slot c.2 ∙ none in
    let l : length ts ≤ length ts = omega arith in
    let many = chain_many stands_next (read_next inner) (NextSlot depth) Any one (length ts) ts (slots_list ss) c.0 c.1 ends tt l in
    let apart : are_new [] (names_in (slots_list ss)) ≡ true = ap (are_new []) (list_names ss) ∙ new in
    rw (many, apart, c.2) (ap (λ (x : Slots). Some (x, us)) (slots_of-list ss)) where
      one : (vs : List Token) (x : Named) (ws : List Token) → NextSlot depth vs x ws → Any ws → IsRead stands_next (read_next inner) Any vs x ws
      one vs x ws is a =
          let f = slot_falls depth falls (after_gaps vs) x.0 x.1.0 x.1.1 ws is in
          let g = gaps_leave vs in
          record { going = opening_stands (after_gaps vs) x.0 is.0 is.4; reads = reads_slot depth inner complete (after_gaps vs) x ws is; less = omega (arith, f, g); follows = tt }
