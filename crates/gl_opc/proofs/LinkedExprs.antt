-- What is linked of expressions is their code, and ends at the first of their unknown names.
use Rattle.std.proofs.Common.{◌≡◌, ◌+◌, ℕ, List, [], ◌∷◌, ◌++◌, Bool, true, false, Option, Some, None, Ok, refl, sym, ap, ◌∙◌, append-nil}
use Rattle.std.proofs.Math.Nat.{zero-add, add-zero}
use Rattle.std.specs.Prelude.{◌==◌, length, if◌then◌else◌, slice_get}
use Rattle.gl_base.specs.Texts.{Text}
use Rattle.gl_value.specs.Value as v
use Rattle.gl_ast.specs.Template.{Plain}
use Rattle.gl_ops.specs.declared.op.Op.TheVariants as op
use Rattle.gl_meaning.specs.Known.{helper_kind, member_kind, modifier_kind}
use Rattle.gl_wire.specs.Symbols.{place_of}
use Rattle.gl_wire.specs.Wire as w
use Rattle.gl_opc.specs.Coding.{count_exprs, count_both, literal_code, segments_code, symbol_code, expr_code, exprs_code, named_code, part_code, parts_code, arguments_code}
use Rattle.gl_opc.specs.Linked.{Context, State, op_added, text_added, name_added, text_op_added, name_op_added, literal_linked, segments_linked, symbol_added, symbol_linked, expr_linked, exprs_linked, named_linked, part_linked, parts_linked, arguments_linked}
use Rattle.gl_opc.specs.Numbers.{helper_number, member_op, modifier_number}
use Rattle.gl_opc.specs.Piece.{Piece, missing, ◌⨾◌, op_piece, op_if, op_where, text_op, name_op}
use Rattle.gl_opc.specs.WireFaults.{expr_unknowns, exprs_unknowns, named_unknowns, part_unknowns, parts_unknowns}
use Rattle.gl_opc.proofs.Joins.{ended_at, behind, behind-behind, behind-nothing, added_op, added_text_op, added_name_op, added_int_op, code_eq, state_eq, alone, join_added, join_after, join_at, join_both, join_known_at}

linked_literal : (x : Plain) (s : State) → literal_linked x s ≡ behind 0 (literal_code x) s
linked_literal v.undefined s = added_op op.Undef s
linked_literal v.null s = added_op op.Null s
linked_literal (v.boolean b) s = added_op (if b then op.True else op.False) s
linked_literal (v.integer z) s = added_int_op op.Int z s
linked_literal (v.text t) s = added_text_op op.Str t s
linked_literal (v.list vs) s = sym (behind-nothing s)
linked_literal (v.pairs ms) s = sym (behind-nothing s)
linked_literal (v.action o n vs) s = sym (behind-nothing s)

linked_segments : (ns : List Text) (s : State) → segments_linked ns s ≡ behind 0 (segments_code ns) s
linked_segments [] s = sym (behind-nothing s)
linked_segments (n ∷ ns) s =
    linked_segments ns (text_op_added op.Prop n s)
    ∙ (ap (λ t. behind 0 (segments_code ns) t) (added_text_op op.Prop n s) ∙ behind-behind 0 0 (text_op op.Prop n) (segments_code ns) s)

linked_argument : (b : Bool) (i : ℕ) (n : Text) (s : State) → symbol_added i (if b then Some n else None) s ≡ behind 0 (if b then name_op op.ArgRef n else op_piece (op.Local i)) s
linked_argument true i n s = added_name_op op.ArgRef n s
linked_argument false i n s = added_op (op.Local i) s

linked_symbol : (i : ℕ) (symbol : Option Text) (s : State) → symbol_linked i symbol s ≡ behind 0 (symbol_code i symbol) s
linked_symbol i None s = added_op (op.Local i) s
linked_symbol i (Some []) s = added_op (op.Local i) s
linked_symbol i (Some (c ∷ n)) s = linked_argument (c == 64) i n s

module _ (context : Context) where
  -- the pieces and the unknown names by the context
  abbrev of_expr : w.Expr → Piece
  of_expr e = expr_code context.manifest context.class context.symbols e

  abbrev of_exprs : w.Exprs → Piece
  of_exprs es = exprs_code context.manifest context.class context.symbols es

  abbrev of_named : w.NamedExprs → Piece
  of_named ns = named_code context.manifest context.class context.symbols ns

  mutual
    pub linked_expr : (i : ℕ) (e : w.Expr) (s : State) → expr_linked context i e s ≡ ended_at i (expr_unknowns context.manifest context.class e) (behind 0 (of_expr e) s)
    linked_expr i (w.literal x) s = ap (λ t. Ok t) (linked_literal x s)
    linked_expr i (w.symbol k) s = ap (λ t. Ok t) (linked_symbol k (slice_get context.symbols k) s)
    linked_expr i (w.this n) s =
        join_known_at op_if (member_op context.class n) i member_kind n (λ o. Ok (op_added o s)) [] s (λ o. ap (λ t. Ok t) (added_op o s))
        ∙ rw (append-nil) refl
    linked_expr i (w.get e ns) s =
        join_added (expr_linked context i e s) (segments_linked ns) _ 0 (of_expr e) (segments_code ns) s (linked_expr i e s) (linked_segments ns _)
    linked_expr i (w.free n) s = refl
    linked_expr i (w.call n es ns) s =
        join_known_at (λ h. of_exprs es ⨾ (of_named ns ⨾ op_where (λ k. op.Call k (count_both es ns)) h)) (helper_number n) i helper_kind n _ _ s
        (λ h. join_both i (op.Call h (count_both es ns)) (exprs_linked context i es s) (named_linked context i ns) _ _ (of_exprs es) (of_named ns) s (linked_exprs i es s) (linked_named i ns _))
    linked_expr i (w.cat es) s =
        join_added (exprs_linked context i es s) (op_added (op.Cat (count_exprs es))) _ 0 (of_exprs es) (op_piece (op.Cat (count_exprs es))) s (linked_exprs i es s) (added_op _ _)

    pub linked_exprs : (i : ℕ) (es : w.Exprs) (s : State)
        → exprs_linked context i es s ≡ ended_at i (exprs_unknowns context.manifest context.class es) (behind 0 (of_exprs es) s)
    linked_exprs i w.no_exprs s = ap (λ t. Ok t) (sym (behind-nothing s))
    linked_exprs i (w.expr e es) s =
        join_at i (expr_linked context i e s) (exprs_linked context i es) _ _ (of_expr e) (of_exprs es) s (linked_expr i e s) (linked_exprs i es _)

    pub linked_named : (i : ℕ) (ns : w.NamedExprs) (s : State)
        → named_linked context i ns s ≡ ended_at i (named_unknowns context.manifest context.class ns) (behind 0 (of_named ns) s)
    linked_named i w.no_named s = ap (λ t. Ok t) (sym (behind-nothing s))
    linked_named i (w.named_expr n e ns) s =
        join_at i (expr_linked context i e s) (λ t. named_linked context i ns (text_op_added op.Named n t)) _ _ (of_expr e) (text_op op.Named n ⨾ of_named ns) s (linked_expr i e s)
        (join_after (named_linked context i ns) _ _ 0 (text_op op.Named n) (of_named ns) _ (added_text_op op.Named n _) (linked_named i ns _))

  linked_attribute : (n t : Text) (s : State)
      → op_added (op.Attr (place_of s.code.names n) (place_of s.code.texts t)) (text_added t (name_added n s)) ≡ behind 0 (part_code context.manifest context.class context.symbols (w.attribute n t)) s
  linked_attribute n t s =
      state_eq
      (code_eq (ap (λ ts. s.code.ops ++ op.Attr (place_of s.code.names n) (place_of ts t) ∷ []) (sym (append-nil s.code.texts)))
      (ap (λ ts. s.code.texts ++ missing ts t) (sym (append-nil s.code.texts)) ∙ alone s.code.texts (missing (s.code.texts ++ []) t))
      (alone s.code.names (missing s.code.names n))
      (sym (append-nil s.code.ints)))
      (sym (add-zero s.begun))

  linked_part : (i : ℕ) (p : w.Part) (s : State)
      → part_linked context i p s ≡ ended_at i (part_unknowns context.manifest context.class p) (behind 0 (part_code context.manifest context.class context.symbols p) s)
  linked_part i (w.attribute n t) s = ap (λ u. Ok u) (linked_attribute n t s)
  linked_part i (w.live n e) s =
      join_added (expr_linked context i e s) (name_op_added op.AttrRef n) _ 0 (of_expr e) (name_op op.AttrRef n) s (linked_expr i e s) (added_name_op op.AttrRef n _)
  linked_part i (w.modifier n es ns) s =
      join_known_at (λ h. of_exprs es ⨾ (of_named ns ⨾ op_where (λ k. op.Mod k (count_both es ns)) h)) (modifier_number context.manifest n) i modifier_kind n _ _ s
      (λ h. join_both i (op.Mod h (count_both es ns)) (exprs_linked context i es s) (named_linked context i ns) _ _ (of_exprs es) (of_named ns) s (linked_exprs i es s) (linked_named i ns _))
  linked_part i w.spread s = ap (λ u. Ok u) (added_op op.Spread s)

  pub linked_parts : (i : ℕ) (ps : List w.Part) (s : State)
      → parts_linked context i ps s ≡ ended_at i (parts_unknowns context.manifest context.class ps) (behind 0 (parts_code context.manifest context.class context.symbols ps) s)
  linked_parts i [] s = ap (λ t. Ok t) (sym (behind-nothing s))
  linked_parts i (p ∷ ps) s =
      join_at i (part_linked context i p s) (parts_linked context i ps) _ _ (part_code context.manifest context.class context.symbols p) (parts_code context.manifest context.class context.symbols ps) s (linked_part i p s) (linked_parts i ps _)

  pub linked_arguments : (i : ℕ) (ns : w.NamedExprs) (s : State)
      → arguments_linked context i ns s ≡ ended_at i (named_unknowns context.manifest context.class ns) (behind 0 (arguments_code context.manifest context.class context.symbols ns) s)
  linked_arguments i w.no_named s = ap (λ t. Ok t) (sym (behind-nothing s))
  linked_arguments i (w.named_expr n e ns) s =
      join_at i (expr_linked context i e s) (λ t. arguments_linked context i ns (name_op_added op.Arg n t)) _ _ (of_expr e) (name_op op.Arg n ⨾ arguments_code context.manifest context.class context.symbols ns) s (linked_expr i e s)
      (join_after (arguments_linked context i ns) _ _ 0 (name_op op.Arg n) (arguments_code context.manifest context.class context.symbols ns) _ (added_name_op op.Arg n _) (linked_arguments i ns _))
