-- The tokens of statements pay for what these have in a wire, each with one to spare for names. So a text is at least as long
-- as its wire is large.
use Rattle.std.proofs.Common.{◌≡◌, ◌≤◌, ◌<◌, ◌+◌, ◌⊎◌, inl, inr, ℕ, zero, suc, List, [], ◌∷◌, ◌++◌, Bool, true, false, cond, length, refl, sym, ap, subst, arith, length-append}
use Rattle.std.specs.Prelude.{codes, map, if◌then◌else◌}
use Rattle.gl_base.specs.Texts.{Text}
use Rattle.gl_ast.specs.Grammar.{deepest_calls, deepest_nesting, IsOpening, IsEndTag, IsClosing, IsKey, IsTarget, part_item, AreItems, parts_among, arguments_among, IsElementRest, IsSlot, IsComponentRest, IsIf, IsEach, IsLet, IsElse, IsChained, AreStmts, IsStmt, IsOwnBlock, AreSlots, Reach, if_word, is_silent, after_silent, is_gap, after_gaps, Spells, SpellsExpr}
use Rattle.gl_ast.specs.Marks.{is_capital, is_small}
use Rattle.gl_ast.specs.Settling.{settled}
use Rattle.gl_ast.specs.Template.{Expr, Exprs, Stmt, text_stmt, comment_stmt, put, element, component_stmt, if_stmt, each, let_stmt, yield, Body, end, stmt, Slots, no_slots, block, Part, AttrValue}
use Rattle.gl_ast.specs.TokenText.{decoded, comment_of, end_name_of, string_of, is_block_name, leads}
use Rattle.gl_ast.specs.declared.mode.Mode.TheVariants as m
use Rattle.gl_ast.specs.declared.token.Token.{Token}
use Rattle.gl_ast.specs.declared.token.TokenKind.TheVariants as k
use Rattle.gl_wire.specs.Size.{named_size, parts_size, parts_names, argument_names, stmt_size, body_size, slots_size, stmt_names, body_names, slots_names, size, names_of, expr_wire_size, expr_names_of}
use Rattle.gl_wire.specs.Symbols.{with_name, with_names, expr_mentions, exprs_mentions, parts_mentions, arguments_mentions, stmt_mentions, body_mentions, slots_mentions, symbols_of, expr_symbols_of}
use Rattle.gl_wire.specs.WireOf.{places_of, parts_wire, arguments_wire, stmt_wire, body_wire, slots_wire, wire_of, expr_wire_of}
use Rattle.gl_base.specs.Names.{has_text}
use Rattle.gl_wirec.proofs.PaysExprs.{expr_pays, exprs_pays, mustache_pays, items_size, items_names, items_pay, parameters_pay}
use Rattle.gl_wirec.proofs.Weights.{Fits, Pays, none_pays, onward, less, mark_pays, stands_pays, lone_fits, settled_fits}

length-places : (ss ns : List Text) → length (places_of ss ns) ≡ length ns
length-places ss [] = refl
length-places ss (n ∷ ns) = ap suc (length-places ss ns)

-- names that statements mention, and those that their wires have
abbrev stmt_count : List Text → List Text → Stmt → ℕ
stmt_count ss scope s = length (stmt_mentions s) + stmt_names (stmt_wire ss scope s)

abbrev body_count : List Text → List Text → Body → ℕ
body_count ss scope b = length (body_mentions b) + body_names (body_wire ss scope b)

abbrev slots_count : List Text → List Text → Slots → ℕ
slots_count ss scope bs = length (slots_mentions bs) + slots_names (slots_wire ss scope bs)

-- bodies, as the recursion gives them
abbrev BodyPays : List Text → List Text → Body → Reach → Type 0
BodyPays ss scope b Rel = (ts us : List Token) → Fits ts → Rel ts us → Pays (body_size (body_wire ss scope b)) (body_count ss scope b) ts us

silent_pay : (ts : List Token) → Fits ts → Pays 0 0 ts (after_silent ts)
silent_pay [] f = record { fits = f; size = omega arith; names = omega arith }
silent_pay (t ∷ ts) f = silent_case (is_silent t) (silent_pay ts (record { full = f.full.1; proper = f.proper.2 }))
  where
    silent_case : (x : Bool) → Pays 0 0 ts (after_silent ts) → Pays 0 0 (t ∷ ts) (cond x (after_silent ts) (t ∷ ts))
    silent_case true more = record { fits = more.fits; size = omega (arith, more.size); names = omega (arith, more.names) }
    silent_case false more = record { fits = f; size = omega arith; names = omega arith }

-- gaps among blocks
gaps_pay : (ts : List Token) → Fits ts → Pays 0 0 ts (after_gaps ts)
gaps_pay [] f = record { fits = f; size = omega arith; names = omega arith }
gaps_pay (t ∷ ts) f = gap_case (is_gap t) (gaps_pay ts (record { full = f.full.1; proper = f.proper.2 }))
  where
    gap_case : (x : Bool) → Pays 0 0 ts (after_gaps ts) → Pays 0 0 (t ∷ ts) (cond x (after_gaps ts) (t ∷ ts))
    gap_case true more = record { fits = more.fits; size = omega (arith, more.size); names = omega (arith, more.names) }
    gap_case false more = record { fits = f; size = omega arith; names = omega arith }

opening_pays : (first : ℕ → Bool) (n : Text) (ts us : List Token) → Fits ts → IsOpening first ts n us → Pays 1 1 ts us
opening_pays first n ts us f g = stands_pays k.TagOpening (λ x. (x ≡ 60 ∷ n) × (leads first n ≡ true)) ts us f g

end_pays : (n : Text) (ts us : List Token) → Fits ts → IsEndTag ts n us → Pays 1 1 ts us
end_pays n ts us f g = stands_pays k.EndTag (λ x. end_name_of x ≡ n) ts us f g

closing_pays : (word : Text) (ts us : List Token) → Fits ts → IsClosing ts word us → Pays 0 0 ts us
closing_pays word ts us f g =
    let a = mark_pays k.OpenClosing ts g.0 f g.2 in
    let b = stands_pays k.Path (λ x. x ≡ word) g.0 g.1 a.fits g.3 in
    let c = mark_pays k.CloseMustache g.1 us b.fits g.4 in
    less (onward a (onward b c)) (omega arith) (omega arith)

key_pays : (key : Text) (ts us : List Token) → Fits ts → IsKey ts key us → Pays 0 0 ts us
key_pays key ts us f (inl g) = none_pays ts us g.0 f
key_pays key ts us f (inr g) =
    let a = stands_pays k.Path (λ x. x ≡ codes "key") ts g.0 f g.2 in
    let b = mark_pays k.Equals g.0 g.1 a.fits g.3 in
    let c = stands_pays k.StringLit (λ x. string_of x ≡ key) g.1 us b.fits g.4 in
    less (onward a (onward b c)) (omega arith) (omega arith)

-- the block that a yield names
target_pays : (to : Text) (ts us : List Token) → Fits ts → IsTarget ts to us → Pays 0 0 ts us
target_pays to ts us f (inl g) = none_pays ts us g.0 f
target_pays to ts us f (inr g) =
    let a = stands_pays k.Path (λ x. x ≡ codes "to") ts g.0 f g.2 in
    let b = mark_pays k.Equals g.0 g.1 a.fits g.3 in
    let c = stands_pays k.StringLit (λ x. (string_of x ≡ to) × (is_block_name to ≡ true)) g.1 us b.fits g.4 in
    less (onward a (onward b c)) (omega arith) (omega arith)

else_pays : (ss scope : List Text) (c : Body) (Plain Chained : Reach) → BodyPays ss scope c Plain → BodyPays ss scope c Chained → BodyPays ss scope c (λ ts us. IsElse Plain Chained ts c us)
else_pays ss scope c Plain Chained plain chained ts us f g = elim g [
  | inl h ↦
      let none : (body_size (body_wire ss scope c) ≡ 0) × (body_count ss scope c ≡ 0) =
      let P : Body → Type 0 = λ b. (body_size (body_wire ss scope b) ≡ 0) × (body_count ss scope b ≡ 0) in subst P (sym h.1) (refl, refl) in
      less (none_pays ts us h.0 f) (omega (arith, none.0)) (omega (arith, none.1))
  | inr h ↦
      let a = mark_pays k.OpenMustache ts h.0 f h.2 in
      let b = stands_pays k.Path (λ x. x ≡ codes "else") h.0 h.1 a.fits h.3 in
      elim h.4 [
        | inl q ↦
            let z = mark_pays k.CloseMustache h.1 q.0 b.fits q.1 in
            let x = plain q.0 us z.fits q.2 in
            less (onward a (onward b (onward z x))) (omega arith) (omega arith)
        | inr q ↦
            let x = chained h.1 us b.fits q in
            less (onward a (onward b x)) (omega arith) (omega arith)
      ]
]

if_pays : (ss scope : List Text) (e : Expr) (unless : Bool) (b c : Body) (Inner Else : Reach) → BodyPays ss scope b Inner → BodyPays ss scope c Else → (ts us : List Token) → Fits ts → IsIf Inner Else ts e unless us
    → Pays (stmt_size (stmt_wire ss scope (if_stmt e unless b c))) (suc (stmt_count ss scope (if_stmt e unless b c))) ts us
if_pays ss scope e unless b c Inner Else body other ts us f g =
    let w = stands_pays k.Path (λ x. x ≡ if_word unless) ts g.0 f g.4 in
    let v = expr_pays ss scope [] false deepest_calls e g.0 g.1 w.fits g.5 in
    let z = mark_pays k.CloseMustache g.1 g.2 v.fits g.6 in
    let x = body g.2 g.3 z.fits g.7 in
    let y = other g.3 us x.fits g.8 in
    less (onward w (onward v (onward z (onward x y)))) (omega arith)
    (omega (arith, length-append (expr_mentions [] e) (body_mentions b ++ body_mentions c), length-append (body_mentions b) (body_mentions c)))

each_pays : (ss scope : List Text) (e : Expr) (key : Text) (ns : List Text) (b c : Body) (Inner Else : Reach) → BodyPays ss (with_names scope ns) b Inner → BodyPays ss scope c Else → (ts us : List Token) → Fits ts → IsEach Inner Else ts e key ns us
    → Pays (stmt_size (stmt_wire ss scope (each e key ns b c))) (suc (stmt_count ss scope (each e key ns b c))) ts us
each_pays ss scope e key ns b c Inner Else body other ts us f g =
    let h = g.1 in
    let w = stands_pays k.Path (λ x. x ≡ codes "each") ts h.0 f h.6 in
    let v = expr_pays ss scope [] false deepest_calls e h.0 h.1 w.fits h.7 in
    let q = key_pays key h.1 h.2 v.fits h.8 in
    let r = parameters_pay ns h.2 h.3 q.fits h.9 in
    let z = mark_pays k.CloseMustache h.3 h.4 r.fits h.10 in
    let x = body h.4 h.5 z.fits h.11 in
    let y = other h.5 us x.fits h.12 in
    less (onward w (onward v (onward q (onward r (onward z (onward x y)))))) (omega (arith, length-places ss ns))
    (omega (arith, length-append (expr_mentions [] e) (ns ++ (body_mentions b ++ body_mentions c)), length-append ns (body_mentions b ++ body_mentions c), length-append (body_mentions b) (body_mentions c)))

let_pays : (ss scope : List Text) (es : Exprs) (ns : List Text) (b : Body) (Inner : Reach) → BodyPays ss (with_names scope ns) b Inner → (ts us : List Token) → Fits ts → IsLet Inner ts es ns us
    → Pays (stmt_size (stmt_wire ss scope (let_stmt es ns b))) (suc (stmt_count ss scope (let_stmt es ns b))) ts us
let_pays ss scope es ns b Inner body ts us f g =
    let h = g.1 in
    let w = stands_pays k.Path (λ x. x ≡ codes "let") ts h.0 f h.4 in
    let v = exprs_pays ss scope [] false deepest_calls es h.0 h.1 w.fits h.5 in
    let r = parameters_pay ns h.1 h.2 v.fits h.6 in
    let z = mark_pays k.CloseMustache h.2 h.3 r.fits h.7 in
    let x = body h.3 us z.fits h.8 in
    less (onward w (onward v (onward r (onward z x)))) (omega (arith, length-places ss ns))
    (omega (arith, length-append (exprs_mentions [] es) (ns ++ body_mentions b), length-append ns (body_mentions b)))

-- items of an element are its parts
parts_of : (ps : List Part) → parts_among (map part_item ps) ≡ ps
parts_of [] = refl
parts_of (p ∷ ps) = ap (λ l. p ∷ l) (parts_of ps)

no_arguments : (ps : List Part) → arguments_among (map part_item ps) ≡ []
no_arguments [] = refl
no_arguments (p ∷ ps) = no_arguments ps

abbrev parts_count : List Text → List Text → List Part → ℕ
parts_count ss scope ps = length (parts_mentions ps) + parts_names (parts_wire ss scope ps)

abbrev arguments_count : List Text → List Text → List (Text × AttrValue) → ℕ
arguments_count ss scope given = length (arguments_mentions given) + argument_names (arguments_wire ss scope given)

element_pays : (ss scope : List Text) (tag : Text) (ps : List Part) (b : Body) (Inner : Reach) → BodyPays ss scope b Inner → (ts vs ws us : List Token) → Fits ts → IsOpening is_small ts tag vs → AreItems vs (map part_item ps) ws → IsElementRest Inner ws tag b us
    → Pays (stmt_size (stmt_wire ss scope (element tag ps b))) (suc (stmt_count ss scope (element tag ps b))) ts us
element_pays ss scope tag ps b Inner body ts vs ws us f g h r =
    let o = opening_pays is_small tag ts vs f g in
    let i = items_pay ss scope (map part_item ps) vs ws o.fits h in
    let s : parts_size (parts_wire ss scope ps) ≤ items_size ss scope (map part_item ps) =
    let e = ap (λ l. parts_size (parts_wire ss scope l)) (parts_of ps) in omega (arith, e) in
    let n : parts_count ss scope ps ≤ items_names ss scope (map part_item ps) =
    let e = ap (λ l. parts_count ss scope l) (parts_of ps) in omega (arith, e) in
    let split = length-append (parts_mentions ps) (body_mentions b) in
    let none : b ≡ end → (body_size (body_wire ss scope b) ≡ 0) × (body_count ss scope b ≡ 0) =
    (λ e. let P : Body → Type 0 = λ c. (body_size (body_wire ss scope c) ≡ 0) × (body_count ss scope c ≡ 0) in subst P (sym e) (refl, refl)) in
    elim r [
      | inl q ↦ let z = mark_pays k.SelfEnd ws us i.fits q.0 in let e = none q.1 in less (onward o (onward i z)) (omega (arith, s, e.0)) (omega (arith, n, e.1, split))
      | inr t ↦ elim t [
        | inl q ↦ let z = mark_pays k.TagEnd ws us i.fits q.1 in let e = none q.2 in less (onward o (onward i z)) (omega (arith, s, e.0)) (omega (arith, n, e.1, split))
        | inr q ↦
            let z = mark_pays k.TagEnd ws q.1.0 i.fits q.1.2 in
            let x = body q.1.0 q.1.1 z.fits q.1.3 in
            let y = end_pays tag q.1.1 us x.fits q.1.4 in
            less (onward o (onward i (onward z (onward x y)))) (omega (arith, s)) (omega (arith, n, split))
      ]
    ]

-- Blocks of a component, where so much of what they have is paid for elsewhere.
pub record SlotsPay (ss scope : List Text) (bs : Slots) (given : ℕ) (ts us : List Token) : Type 0 where
  pub sized : ℕ
  pub counted : ℕ
  pub pays : Pays sized counted ts us
  pub size : slots_size (slots_wire ss scope bs) ≤ given + sized
  pub names : slots_count ss scope bs ≤ given + counted

-- The end of a component's opening tag, and its blocks. The parameters of its statements are paid for in the tag, and the
-- block that these are by the end of the tag.
rest_pays : (ss scope : List Text) (c : Text) (bs : Slots) (ns : List Text) (Own Named : Reach) → ((xs zs : List Token) → Fits xs → Own xs zs → SlotsPay ss scope bs (suc (length ns)) xs zs)
    → ((xs zs : List Token) → Fits xs → Named xs zs → Pays (slots_size (slots_wire ss scope bs)) (slots_count ss scope bs) xs zs)
    → (ts us : List Token) → Fits ts → IsComponentRest Own Named ts c ns bs us → SlotsPay ss scope bs (length ns) ts us
rest_pays ss scope c bs ns Own Named own named ts us f (inl g) =
    let P : Slots → Type 0 = λ x. (slots_size (slots_wire ss scope x) ≡ 0) × (slots_count ss scope x ≡ 0) in
    let none : (slots_size (slots_wire ss scope bs) ≡ 0) × (slots_count ss scope bs ≡ 0) = subst P (sym g.1) (refl, refl) in
    record { sized = 1; counted = 1; pays = mark_pays k.SelfEnd ts us f g.0; size = omega (arith, none.0); names = omega (arith, none.1) }
rest_pays ss scope c bs ns Own Named own named ts us f (inr g) =
    let a = mark_pays k.TagEnd ts g.0 f g.2 in
    elim g.3 [
      | inl q ↦
          let x = own g.0 g.1 a.fits q in
          let z = end_pays c g.1 us x.pays.fits g.4 in
          record {
            sized = 1 + (x.sized + 1);
            counted = 1 + (x.counted + 1);
            pays = onward a (onward x.pays z);
            size = omega (arith, x.size);
            names = omega (arith, x.names);
          }
      | inr q ↦
          let x = named g.0 g.1 a.fits q.3 in
          let z = end_pays c g.1 us x.fits g.4 in
          record {
            sized = 1 + (slots_size (slots_wire ss scope bs) + 1);
            counted = 1 + (slots_count ss scope bs + 1);
            pays = onward a (onward x z);
            size = omega arith;
            names = omega arith;
          }
    ]

-- a block with its name, where those after it are paid for
slot_pays : (ss scope : List Text) (name : Text) (ns : List Text) (b : Body) (bs : Slots) (Inner : Reach) → BodyPays ss (with_names scope ns) b Inner → (ts vs us : List Token) → Fits ts → IsSlot Inner ts name ns vs
    → (Fits vs → Pays (slots_size (slots_wire ss scope bs)) (slots_count ss scope bs) vs us) → Pays (slots_size (slots_wire ss scope (block name ns b bs))) (slots_count ss scope (block name ns b bs)) ts us
slot_pays ss scope name ns b bs Inner body ts vs us f g more =
    let o = stands_pays k.TagOpening (λ x. x ≡ 60 ∷ 58 ∷ name) ts g.0 f g.4 in
    let r = parameters_pay ns g.0 g.1 o.fits g.5 in
    let a = mark_pays k.TagEnd g.1 g.2 r.fits g.6 in
    let x = body g.2 g.3 a.fits g.7 in
    let z = end_pays (58 ∷ name) g.3 vs x.fits g.8 in
    less (onward o (onward r (onward a (onward x (onward z (more z.fits)))))) (omega (arith, length-places ss ns))
    (omega (arith, length-append ns (body_mentions b ++ slots_mentions bs), length-append (body_mentions b) (slots_mentions bs)))

component_pays : (ss scope : List Text) (depth : ℕ) (c : Text) (ps : List Part) (given : List (Text × AttrValue)) (bs : Slots) (ts us : List Token) → Fits ts
    → ((ns : List Text) (xs zs : List Token) → Fits xs → IsComponentRest (λ ys ws. IsOwnBlock depth ns ys bs ws) (λ ys ws. AreSlots depth ys bs ws) xs c ns bs zs → SlotsPay ss scope bs (length ns) xs zs)
    → IsStmt (suc depth) ts (component_stmt c ps given bs) us → Pays (stmt_size (stmt_wire ss scope (component_stmt c ps given bs))) (suc (stmt_count ss scope (component_stmt c ps given bs))) ts us
component_pays ss scope depth c ps given bs ts us f slots g =
    let h = g.2 in
    let o = opening_pays is_capital c ts h.0 f h.3 in
    let i = items_pay ss scope g.0 h.0 h.1 o.fits h.4 in
    let r = parameters_pay g.1 h.1 h.2 i.fits h.7 in
    let rest = slots g.1 h.2 us r.fits h.8 in
    let part_size = ap (λ l. parts_size (parts_wire ss scope l)) h.5 in
    let part_count = ap (λ l. parts_count ss scope l) h.5 in
    let argument_size = ap (λ l. named_size (arguments_wire ss scope l)) h.6 in
    let argument_count = ap (λ l. arguments_count ss scope l) h.6 in
    less (onward o (onward i (onward r rest.pays))) (omega (arith, part_size, argument_size, rest.size))
    (omega (arith, part_count, argument_count, rest.names, length-append (arguments_mentions given) (parts_mentions ps ++ slots_mentions bs), length-append (parts_mentions ps) (slots_mentions bs)))

mutual
  body_pays : (ss scope : List Text) (depth : ℕ) (b : Body) (ts us : List Token) → Fits ts → AreStmts depth ts b us → Pays (body_size (body_wire ss scope b)) (body_count ss scope b) ts us
  body_pays ss scope depth end ts us f g = let a = silent_pay ts f in less (onward a (none_pays (after_silent ts) us g a.fits)) (omega arith) (omega arith)
  body_pays ss scope depth (stmt s b) ts us f g =
      let a = silent_pay ts f in
      let x = stmt_pays ss scope depth s (after_silent ts) g.0 a.fits g.1 in
      let y = body_pays ss scope depth b g.0 us x.fits g.2 in
      less (onward a (onward x y)) (omega arith) (omega (arith, length-append (stmt_mentions s) (body_mentions b)))

  stmt_pays : (ss scope : List Text) (depth : ℕ) (s : Stmt) (ts us : List Token) → Fits ts → IsStmt depth ts s us → Pays (stmt_size (stmt_wire ss scope s)) (suc (stmt_count ss scope s)) ts us
  stmt_pays ss scope depth (text_stmt s) ts us f g = stands_pays k.Text (λ x. decoded x ≡ s) ts us f g
  stmt_pays ss scope depth (comment_stmt s) ts us f g = stands_pays k.HtmlComment (λ x. comment_of x ≡ s) ts us f g
  stmt_pays ss scope depth (put e) ts us f g = less (mustache_pays ss scope e ts us f g) (omega arith) (omega arith)
  stmt_pays ss scope depth (yield es to) ts us f g =
      let a = mark_pays k.OpenMustache ts g.0 f g.4 in
      let b = stands_pays k.Path (λ x. x ≡ codes "yield") g.0 g.1 a.fits g.5 in
      let c = exprs_pays ss scope [] false deepest_calls es g.1 g.2 b.fits g.6 in
      let t = target_pays to g.2 g.3 c.fits g.7 in
      let d = mark_pays k.CloseMustache g.3 us t.fits g.8 in
      less (onward a (onward b (onward c (onward t d)))) (omega arith) (omega arith)
  stmt_pays ss scope zero (element tag ps b) ts us f g = absurd g
  stmt_pays ss scope zero (component_stmt c ps given bs) ts us f g = absurd g
  stmt_pays ss scope zero (if_stmt e unless b c) ts us f g = absurd g
  stmt_pays ss scope zero (each e key ns b c) ts us f g = absurd g
  stmt_pays ss scope zero (let_stmt es ns b) ts us f g = absurd g
  stmt_pays ss scope (suc depth) (element tag ps b) ts us f g =
      element_pays ss scope tag ps b (λ xs ys. AreStmts depth xs b ys) (λ xs ys q r. body_pays ss scope depth b xs ys q r) ts g.0 g.1 us f g.2 g.3 g.4
  stmt_pays ss scope (suc depth) (component_stmt c ps given bs) ts us f g =
      component_pays ss scope depth c ps given bs ts us f
      (λ ns xs zs q r. rest_pays ss scope c bs ns (λ ys ws. IsOwnBlock depth ns ys bs ws) (λ ys ws. AreSlots depth ys bs ws) (λ ys ws p o. own_pays ss scope depth bs ns ys ws p o) (λ ys ws p o. slots_pay ss scope depth bs ys ws p o) xs zs q r) g
  stmt_pays ss scope (suc depth) (if_stmt e unless b c) ts us f g =
      let a = mark_pays k.OpenBlock ts g.0 f g.2 in
      let x = if_pays ss scope e unless b c (λ xs ys. AreStmts depth xs b ys) (λ xs ys. IsElse (λ zs. AreStmts depth zs c) (λ zs. IsChained depth zs c) xs c ys) (λ xs ys q r. body_pays ss scope depth b xs ys q r)
      (else_pays ss scope c (λ zs. AreStmts depth zs c) (λ zs. IsChained depth zs c) (λ xs ys q r. body_pays ss scope depth c xs ys q r) (λ xs ys q r. chained_pays ss scope depth c xs ys q r)) g.0 g.1 a.fits g.3 in
      let z = closing_pays (if_word unless) g.1 us x.fits g.4 in
      less (onward a (onward x z)) (omega arith) (omega arith)
  stmt_pays ss scope (suc depth) (each e key ns b c) ts us f g =
      let a = mark_pays k.OpenBlock ts g.0 f g.2 in
      let x = each_pays ss scope e key ns b c (λ xs ys. AreStmts depth xs b ys) (λ xs ys. IsElse (λ zs. AreStmts depth zs c) (λ zs. IsChained depth zs c) xs c ys) (λ xs ys q r. body_pays ss (with_names scope ns) depth b xs ys q r)
      (else_pays ss scope c (λ zs. AreStmts depth zs c) (λ zs. IsChained depth zs c) (λ xs ys q r. body_pays ss scope depth c xs ys q r) (λ xs ys q r. chained_pays ss scope depth c xs ys q r)) g.0 g.1 a.fits g.3 in
      let z = closing_pays (codes "each") g.1 us x.fits g.4 in
      less (onward a (onward x z)) (omega arith) (omega arith)
  stmt_pays ss scope (suc depth) (let_stmt es ns b) ts us f g =
      let a = mark_pays k.OpenBlock ts g.0 f g.2 in
      let x = let_pays ss scope es ns b (λ xs ys. AreStmts depth xs b ys) (λ xs ys q r. body_pays ss (with_names scope ns) depth b xs ys q r) g.0 g.1 a.fits g.3 in
      let z = closing_pays (codes "let") g.1 us x.fits g.4 in
      less (onward a (onward x z)) (omega arith) (omega arith)

  own_pays : (ss scope : List Text) (depth : ℕ) (bs : Slots) (ns : List Text) (ts us : List Token) → Fits ts → IsOwnBlock depth ns ts bs us → SlotsPay ss scope bs (suc (length ns)) ts us
  own_pays ss scope depth no_slots ns ts us f g = absurd g
  own_pays ss scope depth (block name params b no_slots) ns ts us f g =
      let same : length params ≡ length ns = ap length g.1 in
      record {
        sized = body_size (body_wire ss (with_names scope params) b);
        counted = body_count ss (with_names scope params) b;
        pays = body_pays ss (with_names scope params) depth b ts us f g.2;
        size = omega (arith, same, length-places ss params);
        names = omega (arith, same, length-append params (body_mentions b ++ []), length-append (body_mentions b) []);
      }
  own_pays ss scope depth (block name params b (block x y z ws)) ns ts us f g = absurd g

  slots_pay : (ss scope : List Text) (depth : ℕ) (bs : Slots) (ts us : List Token) → Fits ts → AreSlots depth ts bs us → Pays (slots_size (slots_wire ss scope bs)) (slots_count ss scope bs) ts us
  slots_pay ss scope zero no_slots ts us f g = let a = gaps_pay ts f in less (onward a (none_pays (after_gaps ts) us g a.fits)) (omega arith) (omega arith)
  slots_pay ss scope (suc depth) no_slots ts us f g = let a = gaps_pay ts f in less (onward a (none_pays (after_gaps ts) us g a.fits)) (omega arith) (omega arith)
  slots_pay ss scope zero (block name ns b bs) ts us f g = absurd g
  slots_pay ss scope (suc depth) (block name ns b bs) ts us f g =
      let a = gaps_pay ts f in
      let x = slot_pays ss scope name ns b bs (λ xs ys. AreStmts depth xs b ys) (λ xs ys q r. body_pays ss (with_names scope ns) depth b xs ys q r) (after_gaps ts) g.0 us a.fits g.1 (λ q. slots_pay ss scope (suc depth) bs g.0 us q g.2) in
      less (onward a x) (omega arith) (omega arith)

  chained_pays : (ss scope : List Text) (depth : ℕ) (c : Body) (ts us : List Token) → Fits ts → IsChained depth ts c us → Pays (body_size (body_wire ss scope c)) (body_count ss scope c) ts us
  chained_pays ss scope zero end ts us f g = absurd g
  chained_pays ss scope zero (stmt s b) ts us f g = absurd g
  chained_pays ss scope (suc depth) end ts us f g = absurd g
  chained_pays ss scope (suc depth) (stmt (if_stmt e unless b c) end) ts us f g =
      let x = if_pays ss scope e unless b c (λ xs ys. AreStmts depth xs b ys) (λ xs ys. IsElse (λ zs. AreStmts depth zs c) (λ zs. IsChained depth zs c) xs c ys) (λ xs ys q r. body_pays ss scope depth b xs ys q r)
      (else_pays ss scope c (λ zs. AreStmts depth zs c) (λ zs. IsChained depth zs c) (λ xs ys q r. body_pays ss scope depth c xs ys q r) (λ xs ys q r. chained_pays ss scope depth c xs ys q r)) ts us f g in
      less x (omega arith) (omega (arith, length-append (stmt_mentions (if_stmt e unless b c)) []))
  chained_pays ss scope (suc depth) (stmt (each e key ns b c) end) ts us f g =
      let x = each_pays ss scope e key ns b c (λ xs ys. AreStmts depth xs b ys) (λ xs ys. IsElse (λ zs. AreStmts depth zs c) (λ zs. IsChained depth zs c) xs c ys) (λ xs ys q r. body_pays ss (with_names scope ns) depth b xs ys q r)
      (else_pays ss scope c (λ zs. AreStmts depth zs c) (λ zs. IsChained depth zs c) (λ xs ys q r. body_pays ss scope depth c xs ys q r) (λ xs ys q r. chained_pays ss scope depth c xs ys q r)) ts us f g in
      less x (omega arith) (omega (arith, length-append (stmt_mentions (each e key ns b c)) []))
  chained_pays ss scope (suc depth) (stmt (let_stmt es ns b) end) ts us f g =
      let x = let_pays ss scope es ns b (λ xs ys. AreStmts depth xs b ys) (λ xs ys q r. body_pays ss (with_names scope ns) depth b xs ys q r) ts us f g in
      less x (omega arith) (omega (arith, length-append (stmt_mentions (let_stmt es ns b)) []))
  chained_pays ss scope (suc depth) (stmt s b) ts us f g = absurd g

-- a list of names with each once is no longer
one_more : (b : Bool) (ns : List Text) (n : Text) → length (if b then ns else ns ++ n ∷ []) ≤ suc (length ns)
one_more true ns n = omega arith
one_more false ns n = omega (arith, length-append ns (n ∷ []))

few_symbols : (ns ms : List Text) → length (with_names ns ms) ≤ length ns + length ms
few_symbols ns [] = omega arith
few_symbols ns (m ∷ ms) = omega (arith, few_symbols (with_name ns m) ms, one_more (has_text m ns) ns m)

-- so the wire of a template is no larger than a text that spells it, and has fewer names or none
pub size_within : (bytes : List ℕ) (b : Body) → Spells bytes b → size (wire_of b) ≤ length bytes
unfolding wire_of
size_within bytes b s =
    let f = settled_fits m.Content bytes s.0 s.1 s.2 in
    let p = body_pays (symbols_of b) [] deepest_nesting b (settled bytes s.0) [] f.0 s.3 in
    omega (arith, p.size, f.1)

pub names_within : (bytes : List ℕ) (b : Body) → Spells bytes b → (names_of (wire_of b) ≡ 0) ⊎ (names_of (wire_of b) < length bytes)
unfolding wire_of
names_within bytes end s = inl refl
names_within bytes (stmt x b) s =
    let f = settled_fits m.Content bytes s.0 s.1 s.2 in
    let ss = symbols_of (stmt x b) in
    let ts = settled bytes s.0 in
    let a = silent_pay ts f.0 in
    let p = stmt_pays ss [] deepest_nesting x (after_silent ts) s.3.0 a.fits s.3.1 in
    let q = body_pays ss [] deepest_nesting b s.3.0 [] p.fits s.3.2 in
    let all = onward a (onward p q) in
    inr (omega (arith, all.names, f.1, few_symbols [] (stmt_mentions x ++ body_mentions b), length-append (stmt_mentions x) (body_mentions b)))

-- and so is that of an expression, whatever is in scope
pub expr_size_within : (bytes : List ℕ) (e : Expr) (names : List Text) → SpellsExpr bytes e → expr_wire_size (expr_wire_of names e) ≤ length bytes
unfolding expr_wire_of
expr_size_within bytes e names s =
    let f = lone_fits m.Expression bytes s.0 s.1 s.2 in
    let p = expr_pays (expr_symbols_of names e) names names false deepest_calls e s.0 [] f.0 s.3 in
    omega (arith, p.size, f.1)

pub expr_names_within : (bytes : List ℕ) (e : Expr) (names : List Text) → SpellsExpr bytes e → expr_names_of (expr_wire_of names e) ≤ length bytes
unfolding expr_wire_of
expr_names_within bytes e names s =
    let f = lone_fits m.Expression bytes s.0 s.1 s.2 in
    let p = expr_pays (expr_symbols_of names e) names names false deepest_calls e s.0 [] f.0 s.3 in
    omega (arith, p.names, f.1, few_symbols [] (expr_mentions names e))
