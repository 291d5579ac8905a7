-- The words that the code of an expression's wire has in a program stand for the expression.
use Rattle.std.proofs.Common.{◌≡◌, ℕ, suc, List, [], ◌∷◌, ◌++◌, Bool, true, false, ◌||◌, ◌&&◌, Option, Some, slice_get, refl, sym, ap, subst, ◌∙◌}
use Rattle.std.specs.Prelude.{if◌then◌else◌}
use Rattle.std.specs.Str.{bytes_eq}
use Rattle.std.proofs.lemmas.Slice.Eq.{bytes_eq-Decides}
use Rattle.gl_base.specs.Names.{has_text}
use Rattle.gl_base.specs.Texts.{Text}
use Rattle.gl_value.specs.Value as v
use Rattle.gl_ast.specs.Template as t
use Rattle.gl_ops.specs.declared.op.Op.TheVariants as op
use Rattle.gl_meaning.specs.Known as k
use Rattle.gl_meaning.specs.Manifest.{Manifest, ClassEntry, app_of, class_of}
use Rattle.gl_wire.specs.Symbols.{place_of, expr_mentions, exprs_mentions, named_mentions}
use Rattle.gl_wire.specs.Wire as w
use Rattle.gl_wire.specs.WireOf.{followed, path_of, expr_wire, exprs_wire, named_wire}
use Rattle.gl_program.specs.Program.{Program, Stands}
use Rattle.gl_opc.specs.Coding as code
use Rattle.gl_opc.specs.Numbers.{helper_number, member_op}
use Rattle.gl_opc.specs.Piece.{Place, Piece, nothing, ◌⨾◌, op_piece, text_op, name_op}
use Rattle.gl_opc.specs.Spans.{count_exprs, count_named, count_both, LiteralAt, SegmentsAt, HelperAt, NameAt, ExprAt, ExprsAt, NamedAt}
use Rattle.gl_opc.proofs.Codable.{CodablePlain, is_marked, CodableExpr, CodableExprs, CodableNamed}
use Rattle.gl_opc.proofs.Places.{From, in_turn, none, one, at_address, text_one, name_one, int_one, number_one, op_one}
use Rattle.gl_opc.proofs.SameNames.{SameNames, Among, front_among, back_among, lone_among}
use Rattle.gl_opc.proofs.WireUnknowns.{helper_alike, member_alike}

-- Unknown names

pub both_none : {A : Type 0} (xs ys : List A) → xs ++ ys ≡ [] → (xs ≡ []) × (ys ≡ [])
both_none [] ys e = (refl, e)
both_none (x ∷ xs) ys e = cc

pub is_known : (b : Bool) (kind : k.Kind) (n : Text) → k.unless_known b kind n ≡ [] → b ≡ true
is_known true kind n e = refl
is_known false kind n e = cc

-- Symbols

-- a text that stands among the symbols is at its place
found : (ss : List Text) (n : Text) → has_text n ss ≡ true → slice_get ss (place_of ss n) ≡ Some n
found [] n h = cc
found (s ∷ ss) n h = first_case (bytes_eq n s) refl (λ k. found ss n k) h
  where
    first_case : (b : Bool) → bytes_eq n s ≡ b → (has_text n ss ≡ true → slice_get ss (place_of ss n) ≡ Some n) → (b || has_text n ss) ≡ true
        → slice_get (s ∷ ss) (if b then 0 else suc (place_of ss n)) ≡ Some n
    first_case true e more k = ap (λ (x : Text). Some x) (sym ((bytes_eq-Decides n s).0 e))
    first_case false e more k = more k

plain_symbol : (i : ℕ) (n : Text) → is_marked n ≡ false → code.symbol_code i (Some n) ≡ op_piece (op.Local i)
plain_symbol i [] h = refl
plain_symbol i (c ∷ cs) h = rw h refl

-- what is found at the place of a name without `@` is no argument
no_argument : (i : ℕ) (ss : List Text) (n : Text) → is_marked n ≡ false → code.symbol_code i (slice_get ss (place_of ss n)) ≡ op_piece (op.Local i)
no_argument i [] n h = refl
no_argument i (s ∷ ss) n h = first_case (bytes_eq n s) refl (no_argument i ss n h)
  where
    first_case : (b : Bool) → bytes_eq n s ≡ b → code.symbol_code i (slice_get ss (place_of ss n)) ≡ op_piece (op.Local i)
        → code.symbol_code i (slice_get (s ∷ ss) (if b then 0 else suc (place_of ss n))) ≡ op_piece (op.Local i)
    first_case true e more = let same : n ≡ s = (bytes_eq-Decides n s).0 e in plain_symbol i s (subst (λ (x : Text). is_marked x ≡ false) same h)
    first_case false e more = more

-- Counts

pub exprs_counted : (symbols scope : List Text) (whole : Bool) (es : t.Exprs) → code.count_exprs (exprs_wire symbols scope whole es) ≡ count_exprs es
exprs_counted symbols scope whole t.no_exprs = refl
exprs_counted symbols scope whole (t.expr e es) = ap suc (exprs_counted symbols scope whole es)

named_counted : (symbols scope : List Text) (ns : t.NamedExprs) → code.count_named (named_wire symbols scope ns) ≡ count_named ns
named_counted symbols scope t.no_named = refl
named_counted symbols scope (t.named_expr n e ns) = ap suc (named_counted symbols scope ns)

pub both_counted : (symbols scope : List Text) (whole : Bool) (es : t.Exprs) (ns : t.NamedExprs)
    → code.count_both (exprs_wire symbols scope whole es) (named_wire symbols scope ns) ≡ count_both es ns
both_counted symbols scope whole es ns = rw (exprs_counted symbols scope whole es, named_counted symbols scope ns) refl

module _ (p : Program) (m : Manifest) (c : ClassEntry) (symbols : List Text) where
  -- Literals and paths

  pub literal_lowered : (x : t.Plain) (at to : Place) → CodablePlain x → From p at (code.literal_code x) to → LiteralAt p m c symbols at.address x to.address
  literal_lowered v.undefined at to u h = one p at to op.Undef h
  literal_lowered v.null at to u h = one p at to op.Null h
  literal_lowered (v.boolean b) at to u h = one p at to (if b then op.True else op.False) h
  literal_lowered (v.integer z) at to u h = int_one p at to op.Int z h
  literal_lowered (v.text s) at to u h = text_one p at to op.Str s h
  literal_lowered _ at to u h = absurd u

  segments_lowered : (ns : List Text) (at to : Place) → From p at (code.segments_code ns) to → SegmentsAt p m c symbols at.address ns to.address
  segments_lowered [] at to h = none p at to h
  segments_lowered (n ∷ ns) at to h =
      let a = in_turn p at to (text_op op.Prop n) (code.segments_code ns) h in
      let b = text_one p at a.0 op.Prop n a.1 in
      (b.0, a.0.address, b.1, b.2, segments_lowered ns a.0 to a.2)

  -- what a path begins with, and its segments
  path_lowered : (e : w.Expr) (ns : List Text) (at to : Place) → From p at (code.expr_code m c symbols (followed e ns)) to
      → (mid : Place) × From p at (code.expr_code m c symbols e) mid × SegmentsAt p m c symbols mid.address ns to.address
  path_lowered e [] at to h = (to, h, refl)
  path_lowered e (n ∷ ns) at to h =
      let a = in_turn p at to (code.expr_code m c symbols e) (code.segments_code (n ∷ ns)) h in
      (a.0, a.1, segments_lowered (n ∷ ns) a.0 to a.2)

  helper_lowered : (n : Text) (count : ℕ) (at to : Place) → k.helper_unknown n ≡ [] → From p at (code.helper_code n count) to
      → HelperAt p m c symbols at.address n count to.address
  helper_lowered n count at to e h =
      number_one p at to (λ i. op.Call i count) (helper_number n) (helper_alike n ∙ is_known _ _ n e) h

  -- the call of a lone name
  lone_lowered : (n : Text) (at to : Place) → k.helper_unknown n ≡ [] → From p at (nothing ⨾ (nothing ⨾ code.helper_code n 0)) to
      → HelperAt p m c symbols at.address n 0 to.address
  lone_lowered n at to e h =
      let a = in_turn p at to nothing (nothing ⨾ code.helper_code n 0) h in
      let b = in_turn p a.0 to nothing (code.helper_code n 0) a.2 in
      let g = helper_lowered n 0 b.0 to e b.2 in
      (g.0, g.1, at_address p _ _ _ _ (sym (none p at a.0 a.1 ∙ none p a.0 b.0 b.1)) g.2)

  name_lowered : (here whole : Bool) (n : Text) (ns : List Text) (at to : Place) → is_marked n ≡ false
      → (if here then [] else (if whole && v.is_empty ns then k.helper_unknown n else record { kind = k.local_kind; name = n } ∷ [])) ≡ []
      → From p at (code.expr_code m c symbols (path_of here whole (place_of symbols n) n ns)) to → NameAt p m c symbols here whole at.address n ns to.address
  name_lowered true whole n ns at to u e h =
      let a = path_lowered (w.symbol (place_of symbols n)) ns at to h in
      (a.0.address, one p at a.0 (op.Local (place_of symbols n)) (subst (λ (f : Piece). From p at f a.0) (no_argument (place_of symbols n) symbols n u) a.1), a.2)
  name_lowered false true n [] at to u e h = lone_lowered n at to e h
  name_lowered false true n (o ∷ os) at to u e h = cc
  name_lowered false false n ns at to u e h = cc

  argument_lowered : (n : Text) (at to : Place) → has_text (64 ∷ n) symbols ≡ true → From p at (code.expr_code m c symbols (w.symbol (place_of symbols (64 ∷ n)))) to
      → From p at (name_op op.ArgRef n) to
  argument_lowered n at to e h = subst (λ (o : Option Text). From p at (code.symbol_code (place_of symbols (64 ∷ n)) o) to) (found symbols (64 ∷ n) e) h

  -- Expressions, where `scope` and `params` have the same names

  module _ (known scope params : List Text) (same : SameNames scope params) where
    mutual
      pub expr_lowered : (whole : Bool) (e : t.Expr) (at to : Place) → CodableExpr e → Among (expr_mentions known e) symbols
          → k.expr_unknowns (app_of m []) (class_of c t.end) whole params e ≡ [] → From p at (code.expr_code m c symbols (expr_wire symbols scope whole e)) to
          → ExprAt p m c symbols whole params at.address e to.address
      expr_lowered whole (t.literal x) at to u s e h = literal_lowered x at to u h
      expr_lowered whole (t.this n ns) at to u s e h =
          let a = path_lowered (w.this n) ns at to h in
          let b = op_one p at a.0 (member_op c n) (member_alike c n ∙ is_known _ _ n e) a.1 in
          (b.0, b.1, (a.0.address, b.2, a.2))
      expr_lowered whole (t.argument n ns) at to u s e h =
          let a = path_lowered (w.symbol (place_of symbols (64 ∷ n))) ns at to h in
          let b = name_one p at a.0 op.ArgRef n (argument_lowered n at a.0 (lone_among symbols (64 ∷ n) s) a.1) in
          (b.0, b.1, (a.0.address, b.2, a.2))
      expr_lowered whole (t.bare n ns) at to u s e h =
          name_lowered (has_text n params) whole n ns at to u e
          (subst (λ b. From p at (code.expr_code m c symbols (path_of b whole (place_of symbols n) n ns)) to) (same n) h)
      expr_lowered whole (t.call n es ns) at to u s e h =
          let es' = exprs_wire symbols scope false es in
          let ns' = named_wire symbols scope ns in
          let last = code.helper_code n (code.count_both es' ns') in
          let a = in_turn p at to (code.exprs_code m c symbols es') (code.named_code m c symbols ns' ⨾ last) h in
          let b = in_turn p a.0 to (code.named_code m c symbols ns') last a.2 in
          let f = both_none _ _ e in
          let g = both_none _ _ f.1 in (
            a.0.address,
            b.0.address,
            exprs_lowered false es at a.0 u.0 (front_among symbols (exprs_mentions known es) (named_mentions known ns) s) g.0 a.1,
            named_lowered ns a.0 b.0 u.1 (back_among symbols (exprs_mentions known es) (named_mentions known ns) s) g.1 b.1,
            subst (λ i. HelperAt p m c symbols b.0.address n i to.address) (both_counted symbols scope false es ns) (helper_lowered n _ b.0 to f.0 b.2),
          )
      expr_lowered whole (t.cat es) at to u s e h =
          let es' = exprs_wire symbols scope true es in
          let a = in_turn p at to (code.exprs_code m c symbols es') (op_piece (op.Cat (code.count_exprs es'))) h in (
            a.0.address,
            exprs_lowered true es at a.0 u s e a.1,
            subst (λ i. Stands p a.0.address (op.Cat i) to.address) (exprs_counted symbols scope true es) (one p a.0 to _ a.2),
          )

      pub exprs_lowered : (whole : Bool) (es : t.Exprs) (at to : Place) → CodableExprs es → Among (exprs_mentions known es) symbols
          → k.exprs_unknowns (app_of m []) (class_of c t.end) whole params es ≡ [] → From p at (code.exprs_code m c symbols (exprs_wire symbols scope whole es)) to
          → ExprsAt p m c symbols whole params at.address es to.address
      exprs_lowered whole t.no_exprs at to u s e h = none p at to h
      exprs_lowered whole (t.expr x es) at to u s e h =
          let a = in_turn p at to (code.expr_code m c symbols (expr_wire symbols scope whole x)) (code.exprs_code m c symbols (exprs_wire symbols scope whole es)) h in
          let f = both_none _ _ e in (
            a.0.address,
            expr_lowered whole x at a.0 u.0 (front_among symbols (expr_mentions known x) (exprs_mentions known es) s) f.0 a.1,
            exprs_lowered whole es a.0 to u.1 (back_among symbols (expr_mentions known x) (exprs_mentions known es) s) f.1 a.2,
          )

      pub named_lowered : (ns : t.NamedExprs) (at to : Place) → CodableNamed ns → Among (named_mentions known ns) symbols
          → k.named_unknowns (app_of m []) (class_of c t.end) params ns ≡ [] → From p at (code.named_code m c symbols (named_wire symbols scope ns)) to
          → NamedAt p m c symbols params at.address ns to.address
      named_lowered t.no_named at to u s e h = none p at to h
      named_lowered (t.named_expr n x ns) at to u s e h =
          let rest = code.named_code m c symbols (named_wire symbols scope ns) in
          let a = in_turn p at to (code.expr_code m c symbols (expr_wire symbols scope false x)) (text_op op.Named n ⨾ rest) h in
          let b = in_turn p a.0 to (text_op op.Named n) rest a.2 in
          let d = text_one p a.0 b.0 op.Named n b.1 in
          let f = both_none _ _ e in (
            d.0,
            a.0.address,
            b.0.address,
            expr_lowered false x at a.0 u.0 (front_among symbols (expr_mentions known x) (named_mentions known ns) s) f.0 a.1,
            d.1,
            d.2,
            named_lowered ns b.0 to u.1 (back_among symbols (expr_mentions known x) (named_mentions known ns) s) f.1 b.2,
          )
