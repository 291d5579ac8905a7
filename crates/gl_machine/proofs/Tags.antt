-- The words of a tag: parts, arguments, parameters, blocks.
use Rattle.std.proofs.Common.{◌≡◌, ℕ, suc, List, [], ◌∷◌, ◌++◌, map, length, drop, true, false, None, refl, ◌∙◌, ap, subst, append_assoc}
use Rattle.std.specs.Prelude.{codes}
use Rattle.std.proofs.lemmas.List.{append-nil, map-append}
use Rattle.gl_base.specs.Texts.{Text}
use Rattle.gl_value.specs.Value as va
use Rattle.gl_ast.specs.Template.{AttrValue, fixed, live, Part, attribute, modifier, spread, Slots, no_slots, block}
use Rattle.gl_ops.specs.declared.op.Op.{Op}
use Rattle.gl_ops.specs.declared.op.Op.TheVariants as op
use Rattle.gl_meaning.specs.Eval.{Store}
use Rattle.gl_wire.specs.Symbols.{place_of}
use Rattle.gl_opc.specs.Spans.{ValueAt, PartsAt, ArgumentsAt, ParametersAt, BlocksAt, BareAt, count_both}
use Rattle.gl_plain.specs.Ids.{a_ref, Id, ref}
use Rattle.gl_plain.specs.State.{constant_form, Names, refs_of, Inst, MScope, mscope, MPassed, own, State}
use Rattle.gl_plain.specs.Naming.{Naming}
use Rattle.gl_plain.specs.Binding.{made_row, bind_deep_as, getters_in, bind_expr_as, bind_exprs_as, bind_pairs_as, bind_value_as, bind_args_as, bind_params}
use Rattle.gl_meaning.specs.Parts.{Written, spread_in}
use Rattle.gl_plain.specs.Tags.{Waiting, fixed_part, live_part, modifier_part, bind_part_as, bind_written_as}
use Rattle.gl_machine.specs.Sight.{Passing}
use Rattle.gl_machine.specs.RenewCode.{refs_in}
use Rattle.gl_machine.specs.Params.{Known, HasParamsOf}
use Rattle.gl_machine.specs.Env.{Env, class_no, program_no, symbols_at, by_symbol, texts_of}
use Rattle.gl_machine.specs.Placed.{IsOf, SlotsThere}
use Rattle.gl_machine.specs.Mach.{Pushed, Here, Making, Kind, Frame, Rest, Mach, Run, mach, go}
use Rattle.gl_machine.specs.Step.{popped, unless_parts, do_op_as, with_made, do_bind, spread_to, Comes_as, here}
use Rattle.gl_machine.proofs.Numbered.{number_at}
use Rattle.gl_machine.proofs.Runs.{on, at_op, at_onto}
use Rattle.gl_machine.proofs.Stacks.{popped-last, drop-front, unnamed, with_name, positional_are, named_are, lower_is, upper_is}
use Rattle.gl_machine.proofs.Words.{pushed, counted_both}
use Rattle.gl_machine.proofs.Sound.{Sound}
use Rattle.gl_machine.proofs.Getters.{room, expr_comes, exprs_come, named_come, literal_comes}

abbrev pub with_parts : List Waiting → Making → Making
with_parts ps k = record k { parts = k.parts ++ ps }

abbrev pub with_args : Names → ℕ → Making → Making
with_args gs pc k = record k { args = k.args ++ gs; start = pc }

abbrev pub with_slots : List (Text × ℕ) → Making → Making
with_slots ss k = record k { slots = k.slots ++ ss }

-- Parameters

-- what is left of the references when the parameters have theirs
abbrev pub unused : List Text → List ℕ → List ℕ
unused [] rs = rs
unused (n ∷ ns) [] = unused ns []
unused (n ∷ ns) (r ∷ rs) = unused ns rs

pub names_bound : (ns : List Text) (rs : List ℕ) (st : State) → texts_of (bind_params ns rs st).names ≡ ns
names_bound [] rs st = refl
names_bound (n ∷ ns) [] st = ap (λ xs. n ∷ xs) (names_bound ns [] (made_row (constant_form va.undefined) st))
names_bound (n ∷ ns) (r ∷ rs) st = ap (λ xs. n ∷ xs) (names_bound ns rs st)

pub names_more : (l : Names) (ns : List Text) (rs : List ℕ) (st : State) → texts_of (l ++ (bind_params ns rs st).names) ≡ texts_of l ++ ns
names_more l ns rs st = map-append (λ x. x.0) l (bind_params ns rs st).names ∙ ap (λ xs. texts_of l ++ xs) (names_bound ns rs st)

refs_same : (symbols : List Text) (xs : Names) → refs_in (map (by_symbol symbols) xs) ≡ refs_of xs
refs_same symbols [] = refl
refs_same symbols (x ∷ xs) = ap (λ ys. x.1 ∷ ys) (refs_same symbols xs)

-- the references of the parameters, read off the symbols
pub bound_are : (symbols : List Text) (l more : Names) → refs_in (drop (length (map (by_symbol symbols) l)) (map (by_symbol symbols) (l ++ more))) ≡ refs_of more
bound_are symbols l more =
    ap (λ xs. refs_in (drop (length (map (by_symbol symbols) l)) xs)) (map-append (by_symbol symbols) l more)
    ∙ (ap refs_in (drop-front (map (by_symbol symbols) l) (map (by_symbol symbols) more)) ∙ refs_same symbols more)

-- a frame that keeps what is made for parameters
pub record Keeps (f : List Id → Kind) : Type 0 where
  pub more : (made : List Id) (x : Id) → with_made x (f made) ≡ f (made ++ x ∷ [])

module _ (naming : Naming) (env : Env) (store : Store) (c : ℕ) (i : Inst) (a : Names) (v : MPassed) (w : Passing) (h h' : Here) (left : ℕ) (fs : List Frame) (k : Making) where
  abbrev symbols : List Text
  symbols = symbols_at env c

  abbrev Binds : (ℕ → Op) → Type 0
  Binds kind = (n : ℕ) (m : Mach) → do_op_as naming env store m (kind n) ≡ do_bind n m m.rest.pending

  abbrev framed : (List Id → Kind) → List Id → List Frame
  framed f made = fs ++ record { here = h'; kind = f made } ∷ []

  pub params_come : (kind : ℕ → Op) → Binds kind → (f : List Id → Kind) → Keeps f → (l : Names) (rs : List ℕ) (st : State) (stk : List Pushed) (made : List Id)
      (from : ℕ) (ns : List Text) (to : ℕ) → ParametersAt (program_no env c) env.manifest (class_no env c) symbols kind from ns to
      → (let y = bind_params ns rs st in
      Comes_as naming env store (go st stk [] from (room env c i a l v w rs h k left (framed f made)))
      (go y.state stk [] to (room env c i a (l ++ y.names) v w (unused ns rs) h k left (framed f (made ++ y.made)))))
  params_come kind b f keeps l rs st stk made from [] to at =
      subst (λ n. Comes_as naming env store (go st stk [] from (room env c i a l v w rs h k left (framed f made)))
      (go st stk [] n (room env c i a (l ++ []) v w rs h k left (framed f (made ++ []))))) at
      (rw (append-nil l, append-nil made) here)
  params_come kind b f keeps l [] st stk made from (n ∷ ns) to (next, at, after) =
      let q = ref (st.next a_ref) in
      let st1 = made_row (constant_form va.undefined) st in
      let y = bind_params ns [] st1 in
      let x : Text × ℕ = (n, st.next a_ref) in
      on naming env store
      (at_op naming env store st stk [] from (room env c i a l v w [] h k left (framed f made)) (kind (place_of symbols n)) next at
      (λ m. go st1 stk [] m (room env c i a (l ++ x ∷ []) v w [] h k left (framed f (made ++ q ∷ []))))
      (b (place_of symbols n) (mach st stk [] from (room env c i a l v w [] h k left (framed f made)))
      ∙ (rw (popped-last fs (record { here = h'; kind = f made }), keeps.more made q, map-append (by_symbol symbols) l (x ∷ [])) refl)))
      (rw (← append_assoc l (x ∷ []) y.names, ← append_assoc made (q ∷ []) y.made)
      (params_come kind b f keeps (l ++ x ∷ []) [] st1 stk (made ++ q ∷ []) next ns to after))
  params_come kind b f keeps l (r ∷ rs) st stk made from (n ∷ ns) to (next, at, after) =
      let y = bind_params ns rs st in
      on naming env store
      (at_op naming env store st stk [] from (room env c i a l v w (r ∷ rs) h k left (framed f made)) (kind (place_of symbols n)) next at
      (λ m. go st stk [] m (room env c i a (l ++ (n, r) ∷ []) v w rs h k left (framed f made)))
      (b (place_of symbols n) (mach st stk [] from (room env c i a l v w (r ∷ rs) h k left (framed f made))) ∙ (rw (map-append (by_symbol symbols) l ((n, r) ∷ [])) refl)))
      (rw (← append_assoc l ((n, r) ∷ []) y.names) (params_come kind b f keeps (l ++ (n, r) ∷ []) rs st stk made next ns to after))

-- What is passed goes so where `...attributes` stands: its parts are bound, and the machine comes back.
abbrev pub SpreadGoes : Naming → Env → Store → List (Written MScope) → Passing → Type 0
SpreadGoes naming env store for w =
    (st : State) (stk : List Pushed) (made : List Id) (pc : ℕ) (rest : Rest) → let x = bind_written_as naming env.app for st in
    Comes_as naming env store (spread_to (mach st stk made pc rest) w) (go x.state stk (made ++ x.made) (suc pc) (record rest { making = with_parts x.parts rest.making }))

written_append : (naming : Naming) (env : Env) (xs ys : List (Written MScope)) (st : State)
    → bind_written_as naming env.app (xs ++ ys) st
    ≡ (let x = bind_written_as naming env.app xs st in let y = bind_written_as naming env.app ys x.state in record { parts = x.parts ++ y.parts; made = x.made ++ y.made; state = y.state })
written_append naming env [] ys st = refl
written_append naming env (x ∷ xs) ys st =
    let b = bind_part_as naming env.app x.by x.part st in
    let p = bind_written_as naming env.app xs b.state in
    let q = bind_written_as naming env.app ys p.state in
    rw (written_append naming env xs ys b.state, append_assoc b.parts p.parts q.parts, append_assoc b.made p.made q.made) refl

module _ (naming : Naming) (env : Env) (store : Store) (sound : Sound env)
    (c : ℕ) (i : Inst) (a l : Names) (v : MPassed) (w : Passing) (known : Known (symbols_at env c) (texts_of l)) (is : IsOf env c i)
    (pending : List ℕ) (h : Here) (left : ℕ) (fs : List Frame) where
  abbrev ms : MScope
  ms = mscope i a l v

  abbrev making : Making → Rest
  making k = room env c i a l v w pending h k left fs

  abbrev syms : List Text
  syms = symbols_at env c

  -- The parts of a tag, bound in written order. Where `...attributes` stands, what was passed goes so.
  pub parts_come : (for : List (Written MScope)) → SpreadGoes naming env store for w → (k : Making) (st : State) (stk : List Pushed) (made : List Id) (from : ℕ) (ps : List Part) (to : ℕ)
      → PartsAt (program_no env c) env.manifest (class_no env c) syms (texts_of l) from ps to
      → (let x = bind_written_as naming env.app (spread_in for ms ps) st in
      Comes_as naming env store (go st stk made from (making k)) (go x.state stk (made ++ x.made) to (making (with_parts x.parts k))))
  parts_come for spreads k st stk made from [] to at =
      subst (λ n. Comes_as naming env store (go st stk made from (making k)) (go st stk (made ++ []) n (making (with_parts [] k)))) at (rw (append-nil k.parts, append-nil made) here)
  parts_come for spreads k st stk made from (attribute n (fixed t) ∷ ps) to (next, (j, d, name, has, at), rest) =
      let y = bind_written_as naming env.app (spread_in for ms ps) st in
      on naming env store
      (at_op naming env store st stk made from (making k) (op.Attr j d) next at (λ m. go st stk made m (making (with_parts (fixed_part n t ∷ []) k))) (rw (name, has) refl))
      (rw (← append_assoc k.parts (fixed_part n t ∷ []) y.parts) (parts_come for spreads (with_parts (fixed_part n t ∷ []) k) st stk made next ps to rest))
  parts_come for spreads k st stk made from (attribute n (live e) ∷ ps) to (next, (j, last, first, name, at), rest) =
      let x = bind_expr_as naming env.app ms e st in
      let y = bind_written_as naming env.app (spread_in for ms ps) x.state in
      on naming env store (expr_comes naming env store sound c i a l v w known is pending h k left fs st stk made true from e last first)
      (on naming env store
      (at_op naming env store x.state (pushed stk x.id) (made ++ x.made) last (making k) (op.AttrRef j) next at (λ m. go x.state stk (made ++ x.made) m (making (with_parts (live_part n x.id ∷ []) k)))
      (rw (name, popped-last stk (None, x.id)) refl))
      (rw (← append_assoc k.parts (live_part n x.id ∷ []) y.parts, ← append_assoc made x.made y.made)
      (parts_come for spreads (with_parts (live_part n x.id ∷ []) k) x.state stk (made ++ x.made) next ps to rest)))
  parts_come for spreads k st stk made from (modifier n es ns ∷ ps) to (next, (j, named, last, first, then, number, at), rest) =
      let x = bind_exprs_as naming env.app ms es st in
      let z = bind_pairs_as naming env.app ms ns x.state in
      let y = bind_written_as naming env.app (spread_in for ms ps) z.state in
      let both = map unnamed x.ids ++ map with_name z.names in
      let count : length both ≡ count_both es ns = counted_both naming env (bind_deep_as naming (getters_in env.app ms) env.app (own ms)) ms st es ns in
      let p = modifier_part n x.ids z.names in
      let added : Comes_as naming env store (go z.state ((stk ++ map unnamed x.ids) ++ map with_name z.names) ((made ++ x.made) ++ z.made) last (making k))
      (go z.state stk (made ++ (x.made ++ z.made)) next (making (with_parts (p ∷ []) k))) =
      rw (append_assoc stk (map unnamed x.ids) (map with_name z.names), append_assoc made x.made z.made)
      (at_op naming env store z.state (stk ++ both) (made ++ (x.made ++ z.made)) last (making k) (op.Mod j (count_both es ns)) next at
      (λ m. go z.state stk (made ++ (x.made ++ z.made)) m (making (with_parts (p ∷ []) k)))
      (rw (
        number_at (codes "on" ∷ env.manifest.modifiers) n j number,
        lower_is stk both (count_both es ns) count,
        upper_is stk both (count_both es ns) count,
        positional_are x.ids z.names,
        named_are x.ids z.names,
      ) refl)) in
      on naming env store (exprs_come naming env store sound c i a l v w known is pending h k left fs st stk made false from es named first)
      (on naming env store (named_come naming env store sound c i a l v w known is pending h k left fs x.state (stk ++ map unnamed x.ids) (made ++ x.made) named ns last then)
      (on naming env store added
      (rw (← append_assoc k.parts (p ∷ []) y.parts, ← append_assoc made (x.made ++ z.made) y.made)
      (parts_come for spreads (with_parts (p ∷ []) k) z.state stk (made ++ (x.made ++ z.made)) next ps to rest))))
  parts_come for spreads k st stk made from (spread ∷ ps) to (next, at, rest) =
      let x = bind_written_as naming env.app for st in
      let y = bind_written_as naming env.app (spread_in for ms ps) x.state in
      on naming env store
      (at_onto naming env store st stk made from (making k) op.Spread next at (λ m. go x.state stk (made ++ x.made) m (making (with_parts x.parts k)))
      (spreads st stk made from (making k)))
      (rw (written_append naming env for (spread_in for ms ps) st)
      (rw (← append_assoc k.parts x.parts y.parts, ← append_assoc made x.made y.made)
      (parts_come for spreads (with_parts x.parts k) x.state stk (made ++ x.made) next ps to rest)))

  value_comes : (k : Making) (st : State) (stk : List Pushed) (made : List Id) (from : ℕ) (x : AttrValue) (to : ℕ)
      → ValueAt (program_no env c) env.manifest (class_no env c) syms (texts_of l) from x to
      → (let b = bind_value_as naming env.app ms x st in Comes_as naming env store (go st stk made from (making k)) (go b.state (pushed stk b.id) (made ++ b.made) to (making k)))
  value_comes k st stk made from (fixed t) to at =
      literal_comes naming env store sound c i a l v w known is pending h k left fs st stk made from (va.text t) to at
  value_comes k st stk made from (live e) to at =
      expr_comes naming env store sound c i a l v w known is pending h k left fs st stk made true from e to at

  -- the arguments; where they end is where the parts begin
  pub arguments_come : (k : Making) → (st : State) (stk : List Pushed) (made : List Id) (from : ℕ) → k.start ≡ from → (gs : List (Text × AttrValue)) (to : ℕ)
      → ArgumentsAt (program_no env c) env.manifest (class_no env c) syms (texts_of l) from gs to
      → (let x = bind_args_as naming env.app ms gs st in
      Comes_as naming env store (go st stk made from (making k)) (go x.state stk (made ++ x.made) to (making (with_args x.names to k))))
  arguments_come k st stk made from e [] to at =
      subst (λ n. Comes_as naming env store (go st stk made from (making k)) (go st stk (made ++ []) n (making (with_args [] n k)))) at
      (rw (append-nil k.args, append-nil made) (subst (λ n. Comes_as naming env store (go st stk made from (making k)) (go st stk made from (making (record k { start = n })))) e here))
  arguments_come k st stk made from e (g ∷ gs) to (j, last, next, first, name, at, then) =
      let x = bind_value_as naming env.app ms g.1 st in
      let y = bind_args_as naming env.app ms gs x.state in
      on naming env store (value_comes k st stk made from g.1 last first)
      (on naming env store
      (at_op naming env store x.state (pushed stk x.id) (made ++ x.made) last (making k) (op.Arg j) next at (λ m. go x.state stk (made ++ x.made) m (making (with_args ((g.0, x.id) ∷ []) m k)))
      (rw (name, popped-last stk (None, x.id)) refl))
      (rw (← append_assoc k.args ((g.0, x.id) ∷ []) y.names, ← append_assoc made x.made y.made)
      (arguments_come (with_args ((g.0, x.id) ∷ []) next k) x.state stk (made ++ x.made) next refl gs to then)))

  -- no part of a tag is under way
  abbrev pub NoParts : Type 0
  NoParts = (m : Mach) (r : Run) → unless_parts m (popped fs) r ≡ r

  -- the blocks: only their names and addresses are kept
  pub slots_come : NoParts → (k : Making) (st : State) (stk : List Pushed) (made : List Id) (from : ℕ) (ss : Slots) (to : ℕ)
      → BlocksAt (program_no env c) env.manifest (class_no env c) syms (texts_of l) from ss to → HasParamsOf syms ss
      → (xs : List (Text × ℕ)) × SlotsThere env c (texts_of l) xs ss
      × Comes_as naming env store (go st stk made from (making k)) (go st stk made to (making (with_slots xs k)))
  slots_come none k st stk made from no_slots to at fit =
      ([], record {}, subst (λ n. Comes_as naming env store (go st stk made from (making k)) (go st stk made n (making (with_slots [] k)))) at (rw (append-nil k.slots) here))
  slots_come none k st stk made from (block name ns b ss) to (n, params, body, last, next, has, at, first, then, ends, after) (of_params, of_body, of_rest) =
      let x : Text × ℕ = (name, params) in
      let (xs, there, p) = slots_come none (with_slots (x ∷ []) k) st stk made next ss to after of_rest in (
        x ∷ xs,
        (refl, body, last, next, first, then, ends, of_params, of_body, there),
        on naming env store
            (at_op naming env store st stk made from (making k) (op.Block n next) params at
            (λ m. go st stk made next (making (with_slots ((name, m) ∷ []) k)))
            (none (mach st stk made from (making k)) _ ∙ (rw has refl)))
            (rw (← append_assoc k.slots (x ∷ []) xs) p),
      )

  pub bare_comes : NoParts → (k : Making) (st : State) (stk : List Pushed) (made : List Id) (from : ℕ) (ss : Slots) (to : ℕ)
      → BareAt (program_no env c) env.manifest (class_no env c) syms from ss to
      → Comes_as naming env store (go st stk made from (making k)) (go st stk made to (making k))
  bare_comes none k st stk made from no_slots to at =
      at_op naming env store st stk made from (making k) op.Bare to at (λ m. go st stk made m (making k)) (none (mach st stk made from (making k)) (go st stk made (suc from) (making k)))
  bare_comes none k st stk made from (block n ns b ss) to at =
      subst (λ n. Comes_as naming env store (go st stk made from (making k)) (go st stk made n (making k))) at here
