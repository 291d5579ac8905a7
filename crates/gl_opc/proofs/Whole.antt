-- What is linked of a whole template, and of a whole expression.
use Rattle.std.proofs.Common.{◌≡◌, ℕ, List, [], ◌∷◌, Option, Some, Ok, Err, map, refl, sym, ap, subst, ◌∙◌}
use Rattle.std.specs.Prelude.{Result, IfErr, IsErrAnd}
use Rattle.gl_meaning.specs.Known.{Unknown, first_of}
use Rattle.gl_ops.specs.declared.op.Op.TheVariants.{Done}
use Rattle.gl_ops.specs.Words.{decoded}
use Rattle.gl_wire.specs.Wire as w
use Rattle.gl_program.specs.Program.{Program}
use Rattle.gl_opc.specs.Coding.{body_code, expr_code, template_code, expression_code}
use Rattle.gl_opc.specs.IsProgram.{IsProgramOf}
use Rattle.gl_opc.specs.Linked.{Context, State, Step, Told, op_added, body_linked, expr_linked}
use Rattle.gl_opc.specs.Links.{IsFirst}
use Rattle.gl_opc.specs.Piece.{Code, Piece, no_code, ◌⨾◌, op_piece, start}
use Rattle.gl_opc.specs.TreeFaults.{Fault, at_stmt}
use Rattle.gl_opc.specs.WireFaults.{count_body, body_faults, expr_unknowns}
use Rattle.gl_opc.specs.declared.fault.LinkFault.{LinkFault}
use Rattle.gl_opc.specs.declared.fault.LinkFault.TheVariants as fault
use Rattle.gl_opc.proofs.Joins.{ended, behind, behind-behind, added_op}
use Rattle.gl_opc.proofs.LinkedExprs.{linked_expr}
use Rattle.gl_opc.proofs.LinkedStmts.{linked_body}

-- nothing is linked
abbrev pub empty : State
empty = record { code = no_code; begun = 0 }

-- Steps that gave something had no unknown name.
ended_ok : (fs : List Fault) (s t : State) → ended fs s ≡ Ok t → (fs ≡ []) × (s ≡ t)
ended_ok [] s t e = (refl, cc)
ended_ok (f ∷ fs) s t e = absurd cc

ended_told : (e : LinkFault) (fs : List Fault) (s : State) (x : Step State) → x ≡ ended fs s → Told e x → IsFirst e (first_of fs)
ended_told (fault.UnknownName kind n place) [] s x h t = absurd cc
ended_told (fault.UnknownName kind n place) (f ∷ fs) s x h t = cc
ended_told fault.Memory fs s x h t = tt

-- an error that is passed on
pub err_first : {A : Type 0} (r : Result A LinkFault) (e : LinkFault) (found : Option Fault) → IsErrAnd r (λ f. f ≡ e) → IsFirst e found → IfErr r (λ f. IsFirst f found)
err_first (Ok x) e found h i = tt
err_first (Err f) e found h i = subst (λ g. IsFirst g found) (sym h) i

-- the code of what is behind nothing, with the last opcode
done_code : (n : ℕ) (f : Piece) (t : State) → behind n f empty ≡ t → (op_added Done t).code ≡ (f ⨾ op_piece Done) start
done_code n f t e = ap (λ s. s.code) (ap (op_added Done) (sym e) ∙ (added_op Done (behind n f empty) ∙ behind-behind n 0 f (op_piece Done) empty))

pub program_of : (p : Program) (s : State) (x : Code) → s.code ≡ x
    → map decoded p.words ≡ map Some s.code.ops → p.texts ≡ s.code.texts → p.names ≡ s.code.names → p.ints ≡ s.code.ints → IsProgramOf p x
program_of p s x e f g h i = subst (λ y. IsProgramOf p y) e (f, g, h, i)

module _ (context : Context) where
  pub body_known : (b : w.Body) (t : State) → body_linked context b empty ≡ Ok t → body_faults context.manifest context.class 0 b ≡ []
  body_known b t e = (ended_ok _ _ t (sym (linked_body context b empty) ∙ e)).0

  pub body_done : (b : w.Body) (t : State) → body_linked context b empty ≡ Ok t → (op_added Done t).code ≡ template_code context.manifest context.class context.symbols b start
  body_done b t e =
      done_code (count_body b) (body_code context.manifest context.class context.symbols b) t (ended_ok _ _ t (sym (linked_body context b empty) ∙ e)).1

  pub body_told : (b : w.Body) (e : LinkFault) → Told e (body_linked context b empty) → IsFirst e (first_of (body_faults context.manifest context.class 0 b))
  body_told b e t = ended_told e _ _ _ (linked_body context b empty) t

  no_unknowns : (us : List Unknown) → map (at_stmt 0) us ≡ [] → us ≡ []
  no_unknowns [] e = refl
  no_unknowns (u ∷ us) e = absurd cc

  pub expr_known : (x : w.Expr) (t : State) → expr_linked context 0 x empty ≡ Ok t → expr_unknowns context.manifest context.class x ≡ []
  expr_known x t e = no_unknowns _ (ended_ok _ _ t (sym (linked_expr context 0 x empty) ∙ e)).0

  pub expr_done : (x : w.Expr) (t : State) → expr_linked context 0 x empty ≡ Ok t → (op_added Done t).code ≡ expression_code context.manifest context.class context.symbols x start
  expr_done x t e = done_code 0 (expr_code context.manifest context.class context.symbols x) t (ended_ok _ _ t (sym (linked_expr context 0 x empty) ∙ e)).1

  pub expr_told : (x : w.Expr) (e : LinkFault) → Told e (expr_linked context 0 x empty) → IsFirst e (first_of (map (at_stmt 0) (expr_unknowns context.manifest context.class x)))
  expr_told x e t = ended_told e _ _ _ (linked_expr context 0 x empty) t
