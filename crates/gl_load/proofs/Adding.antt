-- Programs that are added one after another.
use Rattle.std.proofs.Common.{◌≡◌, List, [], ◌∷◌, ◌++◌, refl, sym, ap, ◌∙◌, subst, append_assoc, append-nil}
use Rattle.gl_base.specs.Texts.{Text}
use Rattle.gl_ast.specs.Template.{Expr, Body}
use Rattle.gl_meaning.specs.Manifest.{ClassEntry, Manifest}
use Rattle.gl_program.specs.ClassProgram.{ClassProgram}
use Rattle.gl_program.specs.Program.{Program}
use Rattle.gl_opc.specs.Lowers.{LowersExpr}
use Rattle.gl_opc.specs.Programs.{Scoped, LowerEach, LowersClass, LowersClasses}
use Rattle.gl_load.specs.Adds.{Adds}

module _ (m : Manifest) (c : ClassEntry) where
  lower_both : (es : List Scoped) (ps : List Program) (fs : List Scoped) (qs : List Program) → LowerEach m c es ps → LowerEach m c fs qs → LowerEach m c (es ++ fs) (ps ++ qs)
  lower_both [] [] fs qs h g = g
  lower_both [] (p ∷ ps) fs qs h g = absurd h
  lower_both (e ∷ es) [] fs qs h g = absurd h
  lower_both (e ∷ es) (p ∷ ps) fs qs h g = (h.0, lower_both es ps fs qs h.1 g)

  pub adds_none : (old : List Program) → Adds m c [] old old
  adds_none old = ([], sym (append-nil old), tt)

  pub adds_one : (e : Expr) (params : List Text) (p : Program) (old new : List Program) → LowersExpr p e params m c → new ≡ old ++ p ∷ [] → Adds m c ((params, e) ∷ []) old new
  adds_one e params p old new h is = (p ∷ [], is, (h, tt))

  pub adds_both : (es fs : List Scoped) (old mid new : List Program) → Adds m c es old mid → Adds m c fs mid new → Adds m c (es ++ fs) old new
  adds_both es fs old mid new g h =
      (g.0 ++ h.0, h.1 ∙ ap (λ xs. xs ++ h.0) g.1 ∙ append_assoc old g.0 h.0, lower_both es g.0 fs h.0 g.2 h.2)

  -- those of some of the expressions were added, and these are left
  abbrev pub Goes : List Scoped → List Scoped → List Program → List Program → Type 0
  Goes left all old new = (done : List Scoped) × (all ≡ done ++ left) × Adds m c done old new

  pub goes_start : (all : List Scoped) (old : List Program) → Goes all all old old
  goes_start all old = ([], refl, adds_none old)

  pub goes_step : (here left all : List Scoped) (old mid new : List Program) → Goes (here ++ left) all old mid → Adds m c here mid new → Goes left all old new
  goes_step here left all old mid new g h =
      (g.0 ++ here, g.1 ∙ sym (append_assoc g.0 here left), adds_both g.0 here old mid new g.2 h)

  pub goes_end : (all : List Scoped) (old new : List Program) → Goes [] all old new → Adds m c all old new
  goes_end all old new g = let P : List Scoped → Type 0 = λ es. Adds m c es old new in subst P (sym (g.1 ∙ append-nil g.0)) g.2

  -- what was added to the empty list
  pub adds_all : (es : List Scoped) (new : List Program) → Adds m c es [] new → LowerEach m c es new
  adds_all es new h = let P : List Program → Type 0 = λ ps. LowerEach m c es ps in subst P (sym h.1) h.2

-- Classes

-- where the programs of what is left are those of the classes left, all are those of all classes
abbrev pub Leaves : Manifest → List ClassEntry → List Body → List ClassProgram → List ClassEntry → List Body → Type 0
Leaves m cs bs done all trees = (rest : List ClassProgram) → LowersClasses m cs bs rest → LowersClasses m all trees (done ++ rest)

pub leaves_step : (m : Manifest) (c : ClassEntry) (cs : List ClassEntry) (b : Body) (bs : List Body) (p : ClassProgram) (done : List ClassProgram) (all : List ClassEntry) (trees : List Body) → Leaves m (c ∷ cs) (b ∷ bs) done all trees → LowersClass m c b p → Leaves m cs bs (done ++ p ∷ []) all trees
leaves_step m c cs b bs p done all trees g h = λ rest l. let P : List ClassProgram → Type 0 = λ ps. LowersClasses m all trees ps in subst P (sym (append_assoc done (p ∷ []) rest)) (g (p ∷ rest) (h, l))

pub leaves_end : (m : Manifest) (done : List ClassProgram) (all : List ClassEntry) (trees : List Body) → Leaves m [] [] done all trees → LowersClasses m all trees done
leaves_end m done all trees g = let P : List ClassProgram → Type 0 = λ ps. LowersClasses m all trees ps in subst P (append-nil done) (g [] tt)
