-- A program of the code of a wire without an unknown name lowers the tree that it is the wire of.
use Rattle.std.proofs.Common.{◌≡◌, ℕ, ◌+◌, List, [], map, length, Option, Some, None, slice_get, option_map, refl, sym, ap, subst, ◌∙◌, arith}
use Rattle.std.specs.Prelude.{option_and_then, false}
use Rattle.std.proofs.lemmas.Option.{slice_get-map}
use Rattle.std.proofs.lemmas.List.{length-map}
use Rattle.gl_base.specs.Texts.{Text}
use Rattle.gl_ast.specs.Grammar.{IsTemplate, SpellsExpr}
use Rattle.gl_ast.specs.Template as t
use Rattle.gl_ops.specs.Words.{decoded}
use Rattle.gl_ops.specs.declared.op.Op.{Op}
use Rattle.gl_ops.specs.declared.op.Op.TheVariants.{Done}
use Rattle.gl_meaning.specs.Known as k
use Rattle.gl_meaning.specs.Manifest.{Manifest, ClassEntry, app_of, class_of}
use Rattle.gl_wire.specs.Symbols.{symbols_of, expr_symbols_of, body_mentions, expr_mentions}
use Rattle.gl_wire.specs.Wire as w
use Rattle.gl_wire.specs.WireOf.{body_wire, expr_wire, wire_of, expr_wire_of}
use Rattle.gl_program.specs.Program.{Program, Stands}
use Rattle.gl_opc.specs.Coding.{body_code, expr_code, template_code, expression_code}
use Rattle.gl_opc.specs.IsProgram.{IsProgramOf}
use Rattle.gl_opc.specs.Lowers.{Lowers, LowersExpr}
use Rattle.gl_opc.specs.Piece.{Code, start, after, op_piece}
use Rattle.gl_opc.specs.WireFaults as wire
use Rattle.gl_opc.proofs.Codable.{CodableBody, CodableExpr, template_codable, expression_codable}
use Rattle.gl_opc.proofs.LoweredExprs.{expr_lowered}
use Rattle.gl_opc.proofs.LoweredStmts.{body_lowered}
use Rattle.gl_opc.proofs.Places.{StandsIn, Has, in_turn, one}
use Rattle.gl_opc.proofs.SameNames.{once_among}
use Rattle.gl_opc.proofs.TreeFaults.{unknowns_of, body_faults-unknowns}
use Rattle.gl_opc.proofs.WireUnknowns.{body_wire_faults, expr_wire_unknowns}

-- Programs of codes

word_decoded : (o : Option ℕ) (head : Op) → option_map decoded o ≡ Some (Some head) → option_and_then decoded o ≡ Some head
word_decoded None head e = cc
word_decoded (Some n) head e = cc

stands_whole : {A : Type 0} (xs ys : List A) → ys ≡ xs → StandsIn (slice_get ys) 0 xs
stands_whole xs ys e i a h = let same : 0 + i ≡ i = omega arith in ap (slice_get ys) same ∙ (ap (λ zs. slice_get zs i) e ∙ h)

words_stand : (p : Program) (ops : List Op) → map decoded p.words ≡ map Some ops → StandsIn (λ i. option_and_then decoded (slice_get p.words i)) 0 ops
words_stand p ops e i head h =
    let same : 0 + i ≡ i = omega arith in
    ap (λ j. option_and_then decoded (slice_get p.words j)) same
    ∙ word_decoded (slice_get p.words i) head
    (sym (slice_get-map decoded p.words i) ∙ (ap (λ zs. slice_get zs i) e ∙ (slice_get-map Some ops i ∙ ap (option_map Some) h)))

has_whole : (p : Program) (x : Code) → IsProgramOf p x → Has p start x
has_whole p x h = (words_stand p x.ops h.0, stands_whole x.texts p.texts h.1, stands_whole x.names p.names h.2, stands_whole x.ints p.ints h.3)

-- the last word is that of the last opcode
all_words : (p : Program) (x : Code) → IsProgramOf p x → (after start x).address ≡ length p.words
all_words p x h =
    let same : length p.words ≡ length x.ops = sym (length-map p.words decoded) ∙ (ap length h.0 ∙ length-map x.ops Some) in
    omega (arith, same)

module _ (p : Program) (m : Manifest) (c : ClassEntry) where
  body_lowers : (b : t.Body) → CodableBody b → wire.body_faults m c 0 (body_wire (symbols_of b) [] b) ≡ []
      → IsProgramOf p (template_code m c (symbols_of b) (body_wire (symbols_of b) [] b) start) → Lowers p b m c
  body_lowers b u e h =
      let code = body_code m c (symbols_of b) (body_wire (symbols_of b) [] b) in
      let x = template_code m c (symbols_of b) (body_wire (symbols_of b) [] b) start in
      let to = after start x in
      let a = in_turn p start to code (op_piece Done) (has_whole p x h, refl) in
      let none : k.body_unknowns (app_of m []) (class_of c t.end) [] b ≡ [] =
      sym (body_faults-unknowns (app_of m []) (class_of c t.end) [] 0 b) ∙ ap unknowns_of (sym (body_wire_faults m c (symbols_of b) [] [] (λ n. refl) 0 b) ∙ e) in (
        a.0.address,
        body_lowered p m c (symbols_of b) [] [] (λ n. refl) b start a.0 u (once_among (body_mentions b)) none a.1,
        subst (λ i. Stands p a.0.address Done i) (all_words p x h) (one p a.0 to Done a.2),
      )

  value_lowers : (e : t.Expr) (params : List Text) → CodableExpr e → wire.expr_unknowns m c (expr_wire (expr_symbols_of params e) params false e) ≡ []
      → IsProgramOf p (expression_code m c (expr_symbols_of params e) (expr_wire (expr_symbols_of params e) params false e) start) → LowersExpr p e params m c
  value_lowers e params u f h =
      let symbols = expr_symbols_of params e in
      let code = expr_code m c symbols (expr_wire symbols params false e) in
      let x = expression_code m c symbols (expr_wire symbols params false e) start in
      let to = after start x in
      let a = in_turn p start to code (op_piece Done) (has_whole p x h, refl) in (
        a.0.address,
        expr_lowered p m c symbols params params params (λ n. refl) false e start a.0 u (once_among (expr_mentions params e))
            (sym (expr_wire_unknowns m c symbols params params (λ n. refl) false e) ∙ f) a.1,
        subst (λ i. Stands p a.0.address Done i) (all_words p x h) (one p a.0 to Done a.2),
      )

  pub template_lowers : (b : t.Body) (v : w.Wire) → IsTemplate b → wire_of b ≡ v → wire.body_faults m c 0 v.body ≡ []
      → IsProgramOf p (template_code m c v.symbols v.body start) → Lowers p b m c
  unfolding wire_of
  template_lowers b v is e =
      let P : w.Wire → Type 0 = λ x. wire.body_faults m c 0 x.body ≡ [] → IsProgramOf p (template_code m c x.symbols x.body start) → Lowers p b m c in
      subst P e (body_lowers b (template_codable b is))

  pub expression_lowers : (bytes : List ℕ) (e : t.Expr) (params : List Text) (v : w.ExprWire) → SpellsExpr bytes e → expr_wire_of params e ≡ v
      → wire.expr_unknowns m c v.value ≡ [] → IsProgramOf p (expression_code m c v.symbols v.value start) → LowersExpr p e params m c
  unfolding expr_wire_of
  expression_lowers bytes e params v is f =
      let P : w.ExprWire → Type 0 = λ x. wire.expr_unknowns m c x.value ≡ [] → IsProgramOf p (expression_code m c x.symbols x.value start) → LowersExpr p e params m c in
      subst P f (value_lowers e params (expression_codable bytes e is))
