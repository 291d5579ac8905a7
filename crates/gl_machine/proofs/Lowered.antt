-- What is known of the programs of an application, from what a loaded one keeps.
use Rattle.std.proofs.Common.{◌≡◌, ℕ, zero, suc, List, [], ◌∷◌, map, Bool, true, false, cond, Option, Some, None, refl, sym, ◌∙◌, ap, subst, inl, inr}
use Rattle.std.specs.Prelude.{◌⊎◌, slice_get}
use Rattle.std.specs.Str.{bytes_eq}
use Rattle.gl_base.specs.Texts.{Text}
use Rattle.gl_ast.specs.Grammar.{IsTemplate}
use Rattle.gl_ast.specs.Template.{Expr, Body}
use Rattle.gl_meaning.specs.App.{Class, App}
use Rattle.gl_meaning.specs.Path.{Path, into}
use Rattle.gl_meaning.specs.Eval.{no_class, class_named, class_at}
use Rattle.gl_meaning.specs.Known.{Among, Leads, mention, onward, Acyclic, HasNoCycle}
use Rattle.gl_meaning.specs.Manifest.{Manifest, ClassEntry, class_of, classes_of, app_of}
use Rattle.gl_meaning.specs.ManifestRules.{Each}
use Rattle.gl_program.specs.ClassProgram.{ClassProgram}
use Rattle.gl_program.specs.Program.{Program}
use Rattle.gl_opc.specs.Numbers.{class_number, number_in}
use Rattle.gl_wire.specs.Symbols.{symbols_of}
use Rattle.gl_opc.specs.Lowers.{Lowers, LowersExpr}
use Rattle.gl_opc.specs.Programs.{Scoped, getters_exprs, LowerEach, LowersClass, LowersClasses}
use Rattle.gl_opc.specs.IsApp.{IsAppWith}
use Rattle.gl_machine.specs.Params.{HasParamsIn}
use Rattle.gl_machine.specs.Env.{Env, class_or, class_no, programs_or, program_or, program_no, getter_no}
use Rattle.gl_machine.specs.Laws.{AllLowered}
use Rattle.gl_machine.proofs.Numbered.{some_is, none_some, at_front, further, numbered}
use Rattle.gl_machine.proofs.Fitting.{template_fits}
use Rattle.gl_machine.proofs.Sound.{LoweredAs, Sound}

-- the class, the template and the program at one place
record Placed (m : Manifest) (cs : List ClassEntry) (bs : List Body) (ps : List ClassProgram) (q : ℕ) : Type 0 where
  entry : ClassEntry
  template : Body
  program : ClassProgram
  of_class : slice_get cs q ≡ Some entry
  of_template : slice_get bs q ≡ Some template
  of_program : slice_get ps q ≡ Some program
  lowers : LowersClass m entry template program

placed_at : (m : Manifest) (cs : List ClassEntry) (bs : List Body) (ps : List ClassProgram) → LowersClasses m cs bs ps → (q : ℕ) (e : ClassEntry) → slice_get cs q ≡ Some e
    → (x : Placed m cs bs ps q) × (x.entry ≡ e)
placed_at m [] [] [] low q e there = absurd (none_some e there)
placed_at m (c ∷ cs) (b ∷ bs) (p ∷ ps) low zero e there =
    (record { entry = c; template = b; program = p; of_class = refl; of_template = refl; of_program = refl; lowers = low.0 }, some_is c e there)
placed_at m (c ∷ cs) (b ∷ bs) (p ∷ ps) low (suc q) e there =
    let (x, same) = placed_at m cs bs ps low.1 q e there in
    (record { entry = x.entry; template = x.template; program = x.program; of_class = x.of_class; of_template = x.of_template; of_program = x.of_program; lowers = x.lowers }, same)
placed_at m [] [] (p ∷ ps) low q e there = absurd low
placed_at m [] (b ∷ bs) ps low q e there = absurd low
placed_at m (c ∷ cs) [] ps low q e there = absurd low
placed_at m (c ∷ cs) (b ∷ bs) [] low q e there = absurd low

-- a class by its name is the one of its number
named_at : (m : Manifest) (cs : List ClassEntry) (bs : List Body) (ps : List ClassProgram) → LowersClasses m cs bs ps → (n : Text) (q : ℕ) → number_in (map (λ c. c.name) cs) n ≡ Some q
    → (x : Placed m cs bs ps q) × (x.entry.name ≡ n) × (class_named n (classes_of cs bs) ≡ class_of x.entry x.template)
named_at m [] [] [] low n q number = absurd (none_some q number)
named_at m (c ∷ cs) (b ∷ bs) (p ∷ ps) low n q number =
    elim (numbered c.name (map (λ c. c.name) cs) n q number) [
      | at_front same t is ↦ (
        record { entry = c; template = b; program = p; of_class = ap (slice_get (c ∷ cs)) is; of_template = ap (slice_get (b ∷ bs)) is; of_program = ap (slice_get (p ∷ ps)) is; lowers = low.0 },
        sym same,
        ap (λ t. cond t (class_of c b) (class_named n (classes_of cs bs))) t,
      )
      | further g t there is ↦
          let (x, called, found) = named_at m cs bs ps low.1 n g there in (
            record {
              entry = x.entry;
              template = x.template;
              program = x.program;
              of_class = ap (slice_get (c ∷ cs)) is ∙ x.of_class;
              of_template = ap (slice_get (b ∷ bs)) is ∙ x.of_template;
              of_program = ap (slice_get (p ∷ ps)) is ∙ x.of_program;
              lowers = x.lowers;
            },
            called,
            ap (λ t. cond t (class_of c b) (class_named n (classes_of cs bs))) t ∙ found,
          )
    ]
named_at m [] [] (p ∷ ps) low n q number = absurd low
named_at m [] (b ∷ bs) ps low n q number = absurd low
named_at m (c ∷ cs) [] ps low n q number = absurd low
named_at m (c ∷ cs) (b ∷ bs) [] low n q number = absurd low

each_at : (bs : List Body) → Each IsTemplate bs → (q : ℕ) (b : Body) → slice_get bs q ≡ Some b → IsTemplate b
each_at [] each q b there = absurd (none_some b there)
each_at (d ∷ bs) each zero b there = subst IsTemplate (some_is d b there) each.0
each_at (d ∷ bs) each (suc q) b there = each_at bs each.1 q b there

-- the program of an expression by its place
program_at : (m : Manifest) (c : ClassEntry) (es : List Scoped) (ps : List Program) → LowerEach m c es ps → (q : ℕ) (e : Scoped) → slice_get es q ≡ Some e
    → (p : Program) × (slice_get ps q ≡ Some p) × LowersExpr p e.1 e.0 m c
program_at m c [] [] low q e there = absurd (none_some e there)
program_at m c (d ∷ es) (p ∷ ps) low zero e there = (p, refl, subst (λ x. LowersExpr p x.1 x.0 m c) (some_is d e there) low.0)
program_at m c (d ∷ es) (p ∷ ps) low (suc q) e there = program_at m c es ps low.1 q e there
program_at m c [] (p ∷ ps) low q e there = absurd low
program_at m c (d ∷ es) [] low q e there = absurd low

mapped_at : {A B : Type 0} (f : A → B) (xs : List A) (q : ℕ) (x : A) → slice_get xs q ≡ Some x → slice_get (map f xs) q ≡ Some (f x)
mapped_at f [] q x there = absurd (none_some x there)
mapped_at f (y ∷ xs) zero x there = ap (λ z. Some (f z)) (some_is y x there)
mapped_at f (y ∷ xs) (suc q) x there = mapped_at f xs q x there

-- The empty class has no getter.
leads_nowhere : (g x : Text) → Leads no_class g x → ⊥
leads_nowhere g x (mention there m) = none_some _ there
leads_nowhere g x (onward l r) = leads_nowhere _ _ l

named_among : (n : Text) (cs : List Class) → (class_named n cs ≡ no_class) ⊎ Among (class_named n cs) cs
named_among n [] = inl refl
named_among n (c ∷ cs) = by_test (bytes_eq n c.name) (named_among n cs)
  where
    by_test : (b : Bool) → (class_named n cs ≡ no_class) ⊎ Among (class_named n cs) cs
        → (cond b c (class_named n cs) ≡ no_class) ⊎ Among (cond b c (class_named n cs)) (c ∷ cs)
    by_test true later = inr (inl refl)
    by_test false (inl e) = inl e
    by_test false (inr m) = inr (inr m)

calm_named : (app : App) → HasNoCycle app → (n : Text) → Acyclic (class_named n app.classes)
calm_named app none n = elim (named_among n app.classes) [ inl e ↦ subst Acyclic (sym e) (λ g l. leads_nowhere g g l) | inr m ↦ none (class_named n app.classes) m ]

calm_at : (app : App) → HasNoCycle app → (p : Path) → Acyclic (class_at app p)
calm_at app none [] = calm_named app none app.root
calm_at app none (into n ∷ p) = calm_named app none n
calm_at app none (_ ∷ p) = λ g l. leads_nowhere g g l

module _ (env : Env) (templates : List Body) (is : env.app ≡ app_of env.manifest templates) (app : IsAppWith env.manifest templates env.programs) where
  classes : (n : Text) (q : ℕ) → class_number env.manifest n ≡ Some q → LoweredAs env n q
  classes n q number =
      let (x, called, found) = named_at env.manifest env.manifest.classes templates env.programs app.1 n q number in
      let entry : class_no env q ≡ x.entry = ap class_or x.of_class in
      let program : program_no env q ≡ x.program.template = ap (λ o. (programs_or o).template) x.of_program in
      let class : class_named n env.app.classes ≡ class_of x.entry x.template = ap (λ a. class_named n a.classes) is ∙ found in
      let template : (class_named n env.app.classes).template ≡ x.template = ap (λ k. k.template) class in
      record {
        name = ap (λ e. e.name) entry ∙ called;
        class = class ∙ (ap (λ e. class_of e x.template) (sym entry) ∙ ap (class_of (class_no env q)) (sym template));
        lowered =
            subst (λ p. Lowers p (class_named n env.app.classes).template env.manifest (class_no env q)) (sym program)
            (subst (λ t. Lowers x.program.template t env.manifest (class_no env q)) (sym template)
            (subst (λ e. Lowers x.program.template x.template env.manifest e) (sym entry) x.lowers.0));
        params = subst (λ t. HasParamsIn (symbols_of t) t) (sym template) (template_fits x.template (each_at templates app.0 q x.template x.of_template));
      }

  getter_by : (c q : ℕ) (y : Text × Expr) (o : Option ClassEntry) → slice_get env.manifest.classes c ≡ o → slice_get (class_or o).getters q ≡ Some y
      → LowersExpr (getter_no env c q) y.1 [] env.manifest (class_or o)
  getter_by c q y None e there = absurd (none_some y there)
  getter_by c q y (Some k) e there =
      let (x, same) = placed_at env.manifest env.manifest.classes templates env.programs app.1 c k e in
      let low = subst (λ k. LowerEach env.manifest k (getters_exprs k) x.program.getters) same x.lowers.1 in
      let (p, got, lowers) = program_at env.manifest k (getters_exprs k) x.program.getters low q ([], y.1) (mapped_at (λ g. ([], g.1)) k.getters q y there) in
      let program : getter_no env c q ≡ p = ap (λ o. program_or (slice_get (programs_or o).getters q)) x.of_program ∙ ap program_or got in
      subst (λ p. LowersExpr p y.1 [] env.manifest k) (sym program) lowers

  getters : (c q : ℕ) (y : Text × Expr) → slice_get (class_no env c).getters q ≡ Some y → LowersExpr (getter_no env c q) y.1 [] env.manifest (class_no env c)
  getters c q y there = getter_by c q y (slice_get env.manifest.classes c) refl there

  pub sound_with : Sound env
  sound_with = record { classes = classes; getters = getters; calm = subst (λ a. (p : Path) → Acyclic (class_at a p)) (sym is) (calm_at (app_of env.manifest templates) app.3) }

pub sound : (env : Env) → AllLowered env → Sound env
sound env (templates, is, app) = sound_with env templates is app
