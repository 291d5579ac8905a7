-- What linking says of names.
use Rattle.std.proofs.Common.{◌≡◌, ℕ, List, [], ◌∷◌, Some, Ok, Err, map, refl, sym, ap, ◌∙◌}
use Rattle.gl_base.specs.Texts.{Text}
use Rattle.gl_ast.specs.Template.{Expr, Body, end}
use Rattle.gl_meaning.specs.Known.{Unknown, first_of}
use Rattle.gl_meaning.specs.Manifest.{ClassEntry, Manifest, app_of, class_of}
use Rattle.gl_meaning.specs.View.{kind_view}
use Rattle.gl_meaning.specs.declared.kind.Kind.{Kind}
use Rattle.gl_program.specs.Program.{Program}
use Rattle.gl_opc.specs.Links.{IsFirst}
use Rattle.gl_opc.specs.Lowers.{Lowers, LowersExpr}
use Rattle.gl_opc.specs.TreeFaults.{Fault, at_stmt, first_fault, first_expr_fault, template_faults, expr_faults}
use Rattle.gl_opc.specs.declared.fault.LinkFault.{LinkFault}
use Rattle.gl_opc.specs.declared.fault.LinkFault.TheVariants as v
use Rattle.gl_opc.proofs.Known as opc
use Rattle.gl_opc.proofs.TreeFaults.{unknowns_of, body_faults-unknowns}
use Rattle.gl_load.specs.Names.{known, expr_known, template_known}
use Rattle.gl_load.specs.Refusal.{unknown_name}

first_of_faults : (fs : List Fault) (f : Fault) → first_of fs ≡ Some f → known (unknowns_of fs) ≡ Err (unknown_name f.unknown.kind f.unknown.name)
first_of_faults [] f e = let r : ⊥ = cc in absurd r
first_of_faults (g ∷ gs) f e = let is : g ≡ f = cc in rw is refl

unknowns_at : (i : ℕ) (us : List Unknown) → unknowns_of (map (at_stmt i) us) ≡ us
unknowns_at i [] = refl
unknowns_at i (u ∷ us) = ap (λ vs. u ∷ vs) (unknowns_at i us)

faults_known : (fs : List Fault) (us : List Unknown) → unknowns_of fs ≡ us → fs ≡ [] → known us ≡ Ok tt
faults_known fs us is none = ap known (sym is ∙ ap unknowns_of none)

pub template_lowered : (p : Program) (b : Body) (m : Manifest) (c : ClassEntry) → Lowers p b m c → template_known m c b ≡ Ok tt
template_lowered p b m c h =
    faults_known (template_faults m c b) _ (body_faults-unknowns (app_of m []) (class_of c end) [] 0 b) (opc.template_known p b m c h)

pub template_refused : (m : Manifest) (c : ClassEntry) (b : Body) (f : LinkFault) (k : Kind) (n : Text) (i : ℕ) → f ≡ v.UnknownName k n i → IsFirst f (first_fault m c b) → template_known m c b ≡ Err (unknown_name (kind_view k) n)
template_refused m c b f k n i is h =
    let e : IsFirst (v.UnknownName k n i) (first_fault m c b) = rw is at h in
    ap known (sym (body_faults-unknowns (app_of m []) (class_of c end) [] 0 b)) ∙ first_of_faults (template_faults m c b) _ e

pub expr_lowered : (p : Program) (e : Expr) (params : List Text) (m : Manifest) (c : ClassEntry) → LowersExpr p e params m c → expr_known m c params e ≡ Ok tt
expr_lowered p e params m c h = faults_known (expr_faults m c params e) _ (unknowns_at 0 _) (opc.expression_known p e params m c h)

pub expr_refused : (m : Manifest) (c : ClassEntry) (params : List Text) (e : Expr) (f : LinkFault) (k : Kind) (n : Text) (i : ℕ) → f ≡ v.UnknownName k n i → IsFirst f (first_expr_fault m c params e) → expr_known m c params e ≡ Err (unknown_name (kind_view k) n)
expr_refused m c params e f k n i is h =
    let first : IsFirst (v.UnknownName k n i) (first_expr_fault m c params e) = rw is at h in
    ap known (sym (unknowns_at 0 _)) ∙ first_of_faults (expr_faults m c params e) _ first
