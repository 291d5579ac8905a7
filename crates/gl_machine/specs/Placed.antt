-- When the recorded addresses lower the bodies that the tree has there, in what was recorded of the scope. This doesn't speak of the
-- state, so it stays as it is whatever is made or freed.
use Rattle.std.specs.Prelude.{◌≡◌, ℕ, suc, List, [], ◌∷◌, ◌++◌, Bool, true, false, Option, Some, None, slice_get}
use Rattle.gl_base.specs.Texts.{Text}
use Rattle.gl_ast.specs.Template.{Stmt, text_stmt, comment_stmt, put, element, component_stmt, if_stmt, each, let_stmt, yield, Body, end, stmt, Slots, no_slots, block}
use Rattle.gl_meaning.specs.Path.{at, main, otherwise, items, item, into, slot, Path}
use Rattle.gl_meaning.specs.Eval.{Store, class_at}
use Rattle.gl_meaning.specs.Render.{Block, block_named}
use Rattle.gl_program.specs.Program.{Stands}
use Rattle.gl_ops.specs.declared.op.Op.{Op}
use Rattle.gl_ops.specs.declared.op.Op.TheVariants as op
use Rattle.gl_meaning.specs.Manifest.{class_of}
use Rattle.gl_opc.specs.Numbers.{keys, parameter_symbol}
use Rattle.gl_opc.specs.Spans.{ParametersAt, PartsAt, BodyAt}
use Rattle.gl_plain.specs.State.{Inst, MScope, mscope, MPassed, mnothing, mpassed, inst_of, passed_in, mslots, mwriter, named_as, with_names, State}
use Rattle.gl_plain.specs.State as s
use Rattle.gl_plain.specs.Naming.{Naming}
use Rattle.gl_plain.specs.Live.{Lives, is_deep, are_deep}
use Rattle.gl_plain.specs.Renew.{fresh_body_as, renew_as}
use Rattle.gl_machine.specs.Sight.{Passing, not_passed, passing}
use Rattle.gl_machine.specs.Code.{Choice, Listing, Code, still_code, put_code, element_code, branch_code, listed_code, unlisted_code, let_code, component_code, yield_code, ItemCodes, no_item_codes, item_code, Codes, no_codes, code_and, live_of, lives_of}
use Rattle.gl_machine.specs.Outcome.{Outcome, ok, deep, lost, Ends}
use Rattle.gl_machine.specs.RenewCode.{Runs, start, renew_code_as}
use Rattle.gl_machine.specs.Params.{Known, TwoKnown, HasParamsIn}
use Rattle.gl_machine.specs.Env.{Env, class_no, program_no, symbols_at, texts_of, seen}

-- The words that end a body. Where no frame is left the machine is done there.
abbrev pub Closes : Op → Type 0
Closes (op.Else b) = Unit {0}
Closes op.EndIf = Unit {0}
Closes op.EndItem = Unit {0}
Closes op.EndEach = Unit {0}
Closes op.EndBlock = Unit {0}
Closes op.Done = Unit {0}
Closes _ = ⊥

-- The word behind those of a component's parts: the first of a block, or the one that says that there is none.
abbrev pub EndsParts : Op → Type 0
EndsParts (op.Block a b) = Unit {0}
EndsParts op.Bare = Unit {0}
EndsParts _ = ⊥

abbrev pub WhereFound : Option Block → (Block → Type 0) → Type 0 → Type 0
WhereFound None P Q = Q
WhereFound (Some b) P Q = P b

module _ (env : Env) where
  -- the words of a body, and one that ends it
  abbrev pub BodyThere : ℕ → List Text → ℕ → Body → Type 0
  BodyThere c names from b =
      (last next : ℕ) × (o : Op) × BodyAt (program_no env c) env.manifest (class_no env c) (symbols_at env c) names from b last
      × Stands (program_no env c) last o next × Closes o × HasParamsIn (symbols_at env c) b

  abbrev pub SlotsThere : ℕ → List Text → List (Text × ℕ) → Slots → Type 0
  SlotsThere c names [] no_slots = Unit {0}
  SlotsThere c names (x ∷ xs) (block n ns b ss) =
      (x.0 ≡ n) × (body last next : ℕ) × ParametersAt (program_no env c) env.manifest (class_no env c) (symbols_at env c) op.Param x.1 ns body
      × BodyAt (program_no env c) env.manifest (class_no env c) (symbols_at env c) (names ++ ns) body b last
      × Stands (program_no env c) last op.EndBlock next × Known (symbols_at env c) ns × HasParamsIn (symbols_at env c) b × SlotsThere c names xs ss
  SlotsThere c names _ _ = ⊥

  -- the instance is one of the class with this number, and has a cell for each of its fields, in their order
  pub record IsOf (c : ℕ) (i : Inst) : Type 0 where
    pub cells : keys i.cells ≡ keys (class_no env c).fields
    pub class : class_at env.app i.path ≡ class_of (class_no env c) (class_at env.app i.path).template

  -- What the machine has of what was passed: by recursion over the chain of those who wrote it.
  abbrev pub Matches : Passing → MPassed → Type 0
  Matches w mnothing = w ≡ not_passed
  Matches w (mpassed k ps bs (mscope i a l v)) =
      (c parts last next : ℕ) × (o : Op) × (slots : List (Text × ℕ)) × (u : Passing)
      × (w ≡ passing k parts slots (seen env c (mscope i a l v) u))
      × Known (symbols_at env c) (texts_of l) × IsOf c i × Matches u v
      × PartsAt (program_no env c) env.manifest (class_no env c) (symbols_at env c) (texts_of l) parts ps last
      × Stands (program_no env c) last o next × EndsParts o
      × SlotsThere c (texts_of l) slots bs

  -- a scope of a template in a class's program, with what the machine has of what was passed
  pub record Fits (c : ℕ) (ms : MScope) (w : Passing) : Type 0 where
    pub known : Known (symbols_at env c) (texts_of (s.locals_in ms))
    pub is : IsOf c (inst_of ms)
    pub passes : Matches w (passed_in ms)

  abbrev pub ChoiceAt : ℕ → MScope → Passing → Bool → Body → Body → Choice → Type 0
  ChoiceAt c ms w unless a b z =
      (z.unless ≡ unless) × (z.sight ≡ seen env c ms w) × Fits c ms w
      × BodyThere c (texts_of (s.locals_in ms)) z.first a × BodyThere c (texts_of (s.locals_in ms)) z.second b

  abbrev pub ListingAt : ℕ → MScope → Passing → Text → List Text → Body → Body → Listing → Type 0
  ListingAt c ms w key ns a b z =
      (z.key ≡ key) × (z.value ≡ parameter_symbol (symbols_at env c) (slice_get ns 0)) × (z.index ≡ parameter_symbol (symbols_at env c) (slice_get ns 1)) × TwoKnown (symbols_at env c) ns
      × (z.sight ≡ seen env c ms w) × Fits c ms w
      × BodyThere c (texts_of (s.locals_in ms) ++ ns) z.body a × BodyThere c (texts_of (s.locals_in ms)) z.other b

  -- In the program of the class c, from the scope ms, where w was passed: the recorded part is one of the statement at the path.
  abbrev mutual
    pub Placed : ℕ → MScope → Passing → Path → Stmt → Code → Type 0
    Placed c ms w p (text_stmt t) (still_code n) = Unit {0}
    Placed c ms w p (comment_stmt t) (still_code n) = Unit {0}
    Placed c ms w p (put e) (put_code n x) = Unit {0}
    Placed c ms w p (element tag ps b) (element_code n made xs zs cs) = PlacedIn c ms w p 0 b cs
    Placed c ms w p (if_stmt e unless a b) (branch_code z x true k cs) = ChoiceAt c ms w unless a b z × PlacedIn c ms w (main ∷ p) 0 a cs
    Placed c ms w p (if_stmt e unless a b) (branch_code z x false k cs) = ChoiceAt c ms w unless a b z × PlacedIn c ms w (otherwise ∷ p) 0 b cs
    Placed c ms w p (each e key ns a b) (listed_code z x is) = ListingAt c ms w key ns a b z × PlacedItems c ms w (items ∷ p) ns a is
    Placed c ms w p (each e key ns a b) (unlisted_code z x k cs) = ListingAt c ms w key ns a b z × PlacedIn c ms w (otherwise ∷ p) 0 b cs
    Placed c ms w p (let_stmt es ns a) (let_code made rs cs) = PlacedIn c (with_names (named_as ns rs) ms) w (main ∷ p) 0 a cs
    Placed c ms w p (component_stmt n ps given bs) (component_code i made gm args (Some k) cs) =
        (q : ℕ) × (u : Passing) × (i.path ≡ into n ∷ p)
        × PlacedIn q (mscope i args [] (mpassed k ps bs ms)) u (into n ∷ p) 0 (class_at env.app (into n ∷ p)).template cs
    Placed c ms w p (yield es n) (yield_code k made rs cs) =
        (k ≡ n)
        × WhereFound (block_named n (mslots (passed_in ms)))
        (λ b. (q : ℕ) × (u : Passing) × PlacedIn q (with_names (named_as b.params rs) (mwriter (passed_in ms))) u (slot n ∷ p) 0 b.body cs) (cs ≡ no_codes)
    Placed c ms w p _ _ = ⊥

    pub PlacedIn : ℕ → MScope → Passing → Path → ℕ → Body → Codes → Type 0
    PlacedIn c ms w p i end no_codes = Unit {0}
    PlacedIn c ms w p i (stmt x b) (code_and k ks) = Placed c ms w (at i ∷ p) x k × PlacedIn c ms w p (suc i) b ks
    PlacedIn c ms w p i _ _ = ⊥

    -- an item's path is that of its key
    pub PlacedItems : ℕ → MScope → Passing → Path → List Text → Body → ItemCodes → Type 0
    PlacedItems c ms w p ns b no_item_codes = Unit {0}
    PlacedItems c ms w p ns b (item_code z k cs is) =
        PlacedIn c (with_names (named_as ns z.params) ms) w (item z.key z.occurrence ∷ p) 0 b cs × PlacedItems c ms w p ns b is

-- How what the code answers follows what the machine over trees gives: the same with addresses forgotten, where it ends.
abbrev pub Follows : {A B : Type 0} → (A → Type 0) → (A → B) → (B → Bool) → Outcome (A × State) → B × State → Type 0
Follows P f d (ok x) r = ((f x.0, x.1) ≡ r) × (d r.0 ≡ false) × P x.0
Follows P f d deep r = d r.0 ≡ true
Follows P f d lost r = Unit {0}

abbrev pub FollowsIn : (Codes → Type 0) → Outcome (Codes × State) → Lives × State → Type 0
FollowsIn P o r = Follows P lives_of are_deep o r

-- The machine appends bodies so, by the same naming. This is the law over words.
abbrev pub RunsRight_as : Naming → Env → Store → Runs → Type 0
RunsRight_as naming env store run =
    (c : ℕ) (ms : MScope) (w : Passing) → Fits env c ms w → (from : ℕ) (b : Body) → BodyThere env c (texts_of (s.locals_in ms)) from b
    → (p : Path) (m : ℕ) (st : State)
    → FollowsIn (PlacedIn env c ms w p 0 b) (run (start (seen env c ms w) from p m) st) (fresh_body_as naming env.app store m ms p b st)

-- With enough steps it ends. `run` takes how many it may make.
abbrev pub RunsEnd : Env → Store → (ℕ → Runs) → Type 0
RunsEnd env store run =
    (c : ℕ) (ms : MScope) (w : Passing) → Fits env c ms w → (from : ℕ) (b : Body) → BodyThere env c (texts_of (s.locals_in ms)) from b
    → (p : Path) (m : ℕ) (st : State) → Ends (λ n. run n (start (seen env c ms w) from p m) st)

-- The law of the recorded program.
abbrev pub RenewsRight : Type 0
RenewsRight =
    (naming : Naming) (env : Env) (store : Store) (run : Runs) → RunsRight_as naming env store run
    → (m c : ℕ) (ms : MScope) (w : Passing) (p : Path) (x : Stmt) (k : Code) (st : State) → Placed env c ms w p x k
    → Follows (Placed env c ms w p x) live_of is_deep (renew_code_as naming run m p k st) (renew_as naming env.app store m ms p x (live_of k) st)
