-- What ends: the state without it.
use Rattle.std.proofs.Common.{◌≡◌, ℕ, ◌+◌, ◌<◌, Bool, true, false, cond, Option, Some, None, option_map, IsSome, is_some, List, [], ◌∷◌, refl, sym, ap, ap₂, ◌∙◌, inl, inr, arith}
use Rattle.std.specs.Prelude.{◌&&◌, not, filter, nat_eq, if◌then◌else◌}
use Rattle.std.proofs.lemmas.Bool.{cases_eq}
use Rattle.gl_arena.specs.Id.{Id, same_id}
use Rattle.gl_arena.specs.Arena.{Arena, named, by_stamp, amended, Sets}
use Rattle.gl_nodes.specs.Tree.{Tree}
use Rattle.gl_nodes.specs.Flat.{node_by, RemovesLeaf}
use Rattle.gl_nodes.proofs.Flats.{stamp-same, stamp-other}
use Rattle.gl_mods.specs.Mods as m
use Rattle.gl_mods.proofs.Ids.{hit-is}
use Rattle.gl_scope.specs.Scope.{Blocks}
use Rattle.gl_meaning.specs.Scope.{Source}
use Rattle.gl_plain.specs.Ids.{Kind, a_ref, a_node, an_instance, a_block, a_modifier, Id as Name, kind_eq, id_eq, hit, ref, node as node_id, block_id, instance_id, modifier_id}
use Rattle.gl_plain.specs.State.{instance_row, block_row, modifier_row, row, content, Thing, State}
use Rattle.gl_plain.specs.Naming.{by_number, dropped_as}
use Rattle.gl_vm.specs.Kept.{Kept, thing_at, next_of, state_by}
use Rattle.gl_vm.specs.View.{Tables, stamps, seen_node, seen_instance, seen_modifier, kept_of}
use Rattle.gl_vm.specs.Steps.{Does, dropped_one, is_on, on_count}
use Rattle.gl_vm.specs.declared.vm.Vm.{Vm}
use Rattle.gl_vm.specs.declared.vm.Instance.{Instance}
use Rattle.gl_vm.proofs.States.{num_yes, num_no, amended_is, amended_thing, state_is, look_is}

-- one after another, and both at once
both_none : (x y : ℕ) → nat_eq (x + y) 0 ≡ (nat_eq x 0 && nat_eq y 0)
both_none x y = elim (cases_eq x 0) [
  | inl e ↦ elim (cases_eq y 0) [
    | inl g ↦ num_yes 0 (x + y) (omega (arith, e, g)) ∙ sym (ap₂ (λ a b. a && b) (num_yes 0 x e) (num_yes 0 y g))
    | inr w ↦ num_no 0 (x + y) (λ q. w (omega (arith, q))) ∙ sym (ap₂ (λ a b. a && b) (num_yes 0 x e) (num_no 0 y w))
  ]
  | inr w ↦ num_no 0 (x + y) (λ q. w (omega (arith, q))) ∙ sym (ap (λ b. b && nat_eq y 0) (num_no 0 x w))
]

look_twice : (a b : Bool) (o : Option Thing) → (if a then (if b then o else None) else None) ≡ (if a && b then o else None)
look_twice true b o = refl
look_twice false b o = refl

module _ (f g h : ℕ → Bool) (e : (n : ℕ) → h n ≡ (f n && g n)) where
  one_twice : (x : ℕ) (xs : List ℕ) → filter f (filter g xs) ≡ filter h xs → filter f (filter g (x ∷ xs)) ≡ filter h (x ∷ xs)
  one_twice x xs rest = by (f x) refl (g x) refl where
    and_no : (b : Bool) → (b && false) ≡ false
    and_no true = refl
    and_no false = refl

    by : (c : Bool) → f x ≡ c → (d : Bool) → g x ≡ d → filter f (cond (g x) (x ∷ filter g xs) (filter g xs)) ≡ cond (h x) (x ∷ filter h xs) (filter h xs)
    by c p false q =
        ap (λ b. filter f (cond b (x ∷ filter g xs) (filter g xs))) q
        ∙ (rest ∙ sym (ap (λ b. cond b (x ∷ filter h xs) (filter h xs)) (e x ∙ (ap₂ (λ a b. a && b) p q ∙ and_no c))))
    by true p true q =
        ap (λ b. filter f (cond b (x ∷ filter g xs) (filter g xs))) q
        ∙ (ap (λ b. cond b (x ∷ filter f (filter g xs)) (filter f (filter g xs))) p
        ∙ (ap (λ ys. x ∷ ys) rest ∙ sym (ap (λ b. cond b (x ∷ filter h xs) (filter h xs)) (e x ∙ ap₂ (λ a b. a && b) p q))))
    by false p true q =
        ap (λ b. filter f (cond b (x ∷ filter g xs) (filter g xs))) q
        ∙ (ap (λ b. cond b (x ∷ filter f (filter g xs)) (filter f (filter g xs))) p
        ∙ (rest ∙ sym (ap (λ b. cond b (x ∷ filter h xs) (filter h xs)) (e x ∙ ap₂ (λ a b. a && b) p q))))

  list_twice : (xs : List ℕ) → filter f (filter g xs) ≡ filter h xs
  list_twice [] = refl
  list_twice (x ∷ xs) = one_twice x xs (list_twice xs)

pub dropped_twice : (a b : Name → ℕ) (st : State) → dropped_as by_number a (dropped_as by_number b st) ≡ dropped_as by_number (λ q. a q + b q) st
dropped_twice a b st =
    state_is (dropped_as by_number a (dropped_as by_number b st)) (dropped_as by_number (λ q. a q + b q) st)
    (λ z q. (look_twice (nat_eq (a q) 0) (nat_eq (b q) 0) (st.look q) ∙ ap (λ c. if c then st.look q else None) (sym (both_none (a q) (b q)))) z) refl refl refl
    (list_twice (λ n. nat_eq (a (modifier_id n)) 0) (λ n. nat_eq (b (modifier_id n)) 0) (λ n. nat_eq (a (modifier_id n) + b (modifier_id n)) 0) (λ n. both_none (a (modifier_id n)) (b (modifier_id n))) st.installs)
    (list_twice (λ n. nat_eq (a (modifier_id n)) 0) (λ n. nat_eq (b (modifier_id n)) 0) (λ n. nat_eq (a (modifier_id n) + b (modifier_id n)) 0) (λ n. both_none (a (modifier_id n)) (b (modifier_id n))) st.updates)

-- One thing, which is no modifier

not_hit : (q r : Name) → nat_eq (hit q r) 0 ≡ not (id_eq q r)
unfolding hit
not_hit q r = by (id_eq q r) where
  by : (b : Bool) → nat_eq (if b then 1 else 0) 0 ≡ not b
  by true = refl
  by false = refl

pub all_stay : (p : ℕ → Bool) → ((n : ℕ) → p n ≡ true) → (xs : List ℕ) → filter p xs ≡ xs
all_stay p e [] = refl
all_stay p e (x ∷ xs) = ap₂ (λ b ys. cond b (x ∷ ys) ys) (e x) (all_stay p e xs)

module _ (k : Kept) (touched : Source → Bool) where
  ended : (q : Name) (k' : Kept) → kind_eq a_modifier q.kind ≡ false → ((i : Kind) (n : ℕ) → thing_at k' i n ≡ cond (id_eq (record { kind = i; num = n }) q) None (thing_at k i n)) → next_of k' ≡ next_of k
      → k'.evaluated ≡ k.evaluated → k'.installs ≡ k.installs → k'.updates ≡ k.updates → state_by k' touched ≡ dropped_one q (state_by k touched)
  ended q k' other l n e i u =
      state_is (state_by k' touched) (dropped_one q (state_by k touched))
      (look_is _ _ (λ j s. l j s ∙ turned (id_eq (record { kind = j; num = s }) q) (nat_eq (hit (record { kind = j; num = s }) q) 0) (thing_at k j s) (not_hit (record { kind = j; num = s }) q)))
      n refl e (i ∙ sym (stay k.installs)) (u ∙ sym (stay k.updates))
    where
      turned : (b c : Bool) (o : Option Thing) → c ≡ not b → cond b None o ≡ (if c then o else None)
      turned true c o e = sym (ap (λ c. if c then o else None) e)
      turned false c o e = sym (ap (λ c. if c then o else None) e)

      stay : (xs : List ℕ) → filter (λ s. nat_eq (hit (modifier_id s) q) 0) xs ≡ xs
      stay xs = all_stay (λ s. nat_eq (hit (modifier_id s) q) 0) (λ s. not_hit (modifier_id s) q ∙ ap (λ b. not (b && nat_eq s q.num)) other) xs

  pub row_ended : (s : ℕ) → state_by (record k { row = amended k.row s None }) touched ≡ dropped_one (ref s) (state_by k touched)
  row_ended s = ended (ref s) (record k { row = amended k.row s None }) refl at (λ z j. same j z) refl refl refl where
    at : (i : Kind) (n : ℕ) → thing_at (record k { row = amended k.row s None }) i n ≡ cond (id_eq (record { kind = i; num = n }) (ref s)) None (thing_at k i n)
    at a_ref n = amended_thing k.row s None row n
    at a_node n = refl
    at an_instance n = refl
    at a_block n = refl
    at a_modifier n = refl

    same : (i : Kind) → next_of (record k { row = amended k.row s None }) i ≡ next_of k i
    same a_ref = refl
    same a_node = refl
    same an_instance = refl
    same a_block = refl
    same a_modifier = refl

  pub inst_ended : (s : ℕ) → state_by (record k { inst = amended k.inst s None }) touched ≡ dropped_one (instance_id s) (state_by k touched)
  inst_ended s = ended (instance_id s) (record k { inst = amended k.inst s None }) refl at (λ z j. same j z) refl refl refl where
    at : (i : Kind) (n : ℕ) → thing_at (record k { inst = amended k.inst s None }) i n ≡ cond (id_eq (record { kind = i; num = n }) (instance_id s)) None (thing_at k i n)
    at a_ref n = refl
    at a_node n = refl
    at an_instance n = amended_thing k.inst s None instance_row n
    at a_block n = refl
    at a_modifier n = refl

    same : (i : Kind) → next_of (record k { inst = amended k.inst s None }) i ≡ next_of k i
    same a_ref = refl
    same a_node = refl
    same an_instance = refl
    same a_block = refl
    same a_modifier = refl

  pub block_ended : (s : ℕ) → state_by (record k { block = amended k.block s None }) touched ≡ dropped_one (block_id s) (state_by k touched)
  block_ended s = ended (block_id s) (record k { block = amended k.block s None }) refl at (λ z j. same j z) refl refl refl where
    at : (i : Kind) (n : ℕ) → thing_at (record k { block = amended k.block s None }) i n ≡ cond (id_eq (record { kind = i; num = n }) (block_id s)) None (thing_at k i n)
    at a_ref n = refl
    at a_node n = refl
    at an_instance n = refl
    at a_block n = amended_thing k.block s None (λ u. block_row) n
    at a_modifier n = refl

    same : (i : Kind) → next_of (record k { block = amended k.block s None }) i ≡ next_of k i
    same a_ref = refl
    same a_node = refl
    same an_instance = refl
    same a_block = refl
    same a_modifier = refl

  pub node_ended : (s : ℕ) → state_by (record k { node = amended k.node s None }) touched ≡ dropped_one (node_id s) (state_by k touched)
  node_ended s = ended (node_id s) (record k { node = amended k.node s None }) refl at (λ z j. same j z) refl refl refl where
    at : (i : Kind) (n : ℕ) → thing_at (record k { node = amended k.node s None }) i n ≡ cond (id_eq (record { kind = i; num = n }) (node_id s)) None (thing_at k i n)
    at a_ref n = refl
    at a_node n = amended_thing k.node s None content n
    at an_instance n = refl
    at a_block n = refl
    at a_modifier n = refl

    same : (i : Kind) → next_of (record k { node = amended k.node s None }) i ≡ next_of k i
    same a_ref = refl
    same a_node = refl
    same an_instance = refl
    same a_block = refl
    same a_modifier = refl

seen_gone : {T S : Type 0} (g : ℕ → T → S) (old new : Arena T) (s : ℕ) → Sets old new s None → (λ k. option_map (g k) (by_stamp new k)) ≡ amended (λ k. option_map (g k) (by_stamp old k)) s None
seen_gone g old new s h = amended_is (λ k. option_map (g k) (by_stamp old k)) s None (λ k. option_map (g k) (by_stamp new k)) (ap (option_map (g s)) h.here) (λ q ne. ap (option_map (g q)) (h.others q ne))

module _ (vm : Vm) (a : Arena Instance) (s : ℕ) (sets : Sets vm.instances a s None) (count : a.made ≡ vm.instances.made) where
  pub instance_gone : Does (λ n. dropped_one (instance_id s)) vm (record vm { instances = a })
  instance_gone n touched agrees = record {
    state = ap (λ (k : Kept). state_by k touched) kept-is ∙ inst_ended (kept_of n vm) touched s;
    agrees = agrees;
  }
    where
      kept-is : kept_of n (record vm { instances = a }) ≡ record (kept_of n vm) { inst = amended (kept_of n vm).inst s None }
      kept-is = λ z. record (kept_of n vm) { inst = seen_gone (seen_instance n) vm.instances a s sets z; insts = count z }

module _ (vm : Vm) (a : Blocks) (s : ℕ) (sets : Sets vm.scopes a s None) (count : a.made ≡ vm.scopes.made) where
  pub block_gone : Does (λ n. dropped_one (block_id s)) vm (record vm { scopes = a })
  block_gone n touched agrees = record {
    state = ap (λ (k : Kept). state_by k touched) kept-is ∙ block_ended (kept_of n vm) touched s;
    agrees = agrees;
  }
    where
      kept-is : kept_of n (record vm { scopes = a }) ≡ record (kept_of n vm) { block = amended (kept_of n vm).block s None }
      kept-is = λ z. record (kept_of n vm) { block = seen_gone (λ k b. tt) vm.scopes a s sets z; blocks = count z }

module _ (vm : Vm) (t : Tree) (i : Id) (goes : RemovesLeaf vm.tree t i) where
  pub node_gone : Does (λ n. dropped_one (node_id i.1)) vm (record vm { tree = t })
  node_gone n touched agrees = record {
    state = ap (λ (k : Kept). state_by k touched) kept-is ∙ node_ended (kept_of n vm) touched i.1;
    agrees = agrees;
  }
    where
      nodes-are : (λ k. option_map seen_node (node_by t k)) ≡ amended (λ k. option_map seen_node (node_by vm.tree k)) i.1 None
      nodes-are =
          amended_is (λ k. option_map seen_node (node_by vm.tree k)) i.1 None (λ k. option_map seen_node (node_by t k))
          (ap (option_map seen_node) (goes.removes.ended i.1 (let one = stamp-same i.1 in omega (arith, one))))
          (λ q ne. ap (option_map seen_node) (goes.removes.nodes q (let off = stamp-other q i.1 ne in omega (arith, off))))

      kept-is : kept_of n (record vm { tree = t }) ≡ record (kept_of n vm) { node = amended (λ k. option_map seen_node (node_by vm.tree k)) i.1 None }
      kept-is = λ z. record (kept_of n vm) { node = nodes-are z; nodes = goes.count z }

-- The modifiers of a node

Listed : m.Mods → Id → Type 0
Listed mods i = (named mods.table i ≡ by_stamp mods.table i.1) × IsSome (named mods.table i)

-- what holds of all that stand in a list
of_each : (P : Id → Type 0) (G : List Id → Type 0) → G [] → ((x : Id) (xs : List Id) → P x → G xs → G (x ∷ xs)) → (xs : List Id) → ((i : Id) → 0 < m.times i xs → P i) → G xs
of_each P G n c [] h = n
of_each P G n c (x ∷ xs) h =
    c x xs (h x (let e = hit-is x x refl in omega (arith, e))) (of_each P G n c xs (λ i lt. h i (omega (arith, lt))))

module _ (vm : Vm) (s : m.Mods) (node : Id) (sound : m.IsSound vm.mods) (drops : m.Drops vm.mods s node) where
  abbrev stays : Id → Bool
  stays i = is_some (m.off_node node (named vm.mods.table i))

  abbrev uncounted : ℕ → Bool
  uncounted n = nat_eq (on_count vm.mods node (modifier_id n)) 0

  as_counted : (i : Id) → (named vm.mods.table i ≡ by_stamp vm.mods.table i.1) × IsSome (named vm.mods.table i) → uncounted i.1 ≡ stays i
  as_counted i h = by (named vm.mods.table i) refl h.1 where
    by : (o : Option m.Installed) → named vm.mods.table i ≡ o → IsSome o → nat_eq (on_count vm.mods node (modifier_id i.1)) 0 ≡ is_some (m.off_node node (named vm.mods.table i))
    by None e l = let no : false ≡ true = l in absurd (cc)
    by (Some x) e l = ap (λ o. nat_eq (if is_on node o then 1 else 0) 0) (sym h.0 ∙ e) ∙ (test (same_id x.node node) ∙ sym (ap (λ o. is_some (m.off_node node o)) e)) where
      test : (b : Bool) → nat_eq (if b then 1 else 0) 0 ≡ is_some (if b then None else Some x)
      test true = refl
      test false = refl

  list_is : (xs : List Id) → ((i : Id) → 0 < m.times i xs → (named vm.mods.table i ≡ by_stamp vm.mods.table i.1) × IsSome (named vm.mods.table i)) → filter uncounted (stamps xs) ≡ stamps (filter stays xs)
  list_is = of_each (λ i. (named vm.mods.table i ≡ by_stamp vm.mods.table i.1) × IsSome (named vm.mods.table i)) (λ xs. filter uncounted (stamps xs) ≡ stamps (filter stays xs)) refl (λ x xs p g. more x xs (as_counted x p) g) where
    more : (x : Id) (xs : List Id) → uncounted x.1 ≡ stays x → filter uncounted (stamps xs) ≡ stamps (filter stays xs) → filter uncounted (stamps (x ∷ xs)) ≡ stamps (filter stays (x ∷ xs))
    more x xs e g = ap₂ (λ b ys. cond b (x.1 ∷ ys) ys) e g ∙ by (stays x) where
      by : (b : Bool) → cond b (x.1 ∷ stamps (filter stays xs)) (stamps (filter stays xs)) ≡ stamps (cond b (x ∷ filter stays xs) (filter stays xs))
      by true = refl
      by false = refl

  module _ (n : Tables) (touched : Source → Bool) where
    at : (i : Kind) (k : ℕ) → thing_at (kept_of n (record vm { mods = s })) i k ≡ cond (nat_eq (on_count vm.mods node (record { kind = i; num = k })) 0) (thing_at (kept_of n vm) i k) None
    at a_ref k = refl
    at a_node k = refl
    at an_instance k = refl
    at a_block k = refl
    at a_modifier k = ap (λ o. option_map modifier_row (option_map (seen_modifier n) o)) (drops.stamps k) ∙ by (by_stamp vm.mods.table k) where
      by : (o : Option m.Installed) → option_map modifier_row (option_map (seen_modifier n) (m.off_node node o)) ≡ cond (nat_eq (if is_on node o then 1 else 0) 0) (option_map modifier_row (option_map (seen_modifier n) o)) None
      by None = refl
      by (Some x) = test (same_id x.node node) where
        test : (b : Bool) → option_map modifier_row (option_map (seen_modifier n) (if b then None else Some x)) ≡ cond (nat_eq (if b then 1 else 0) 0) (Some (modifier_row (seen_modifier n x))) None
        test true = refl
        test false = refl

    after : (i : Kind) → next_of (kept_of n (record vm { mods = s })) i ≡ next_of (kept_of n vm) i
    after a_ref = refl
    after a_node = refl
    after an_instance = refl
    after a_block = refl
    after a_modifier = drops.made

  pub modifiers_gone : Does (λ n. dropped_as by_number (on_count vm.mods node)) vm (record vm { mods = s })
  modifiers_gone n touched agrees = record {
    state = state_is _ _ (look_is _ _ (at n touched)) (λ z i. after n touched i z) refl refl
        (ap stamps drops.installs ∙ sym (list_is vm.mods.installs (λ i lt. let h = sound.installs i lt in (h.1.same, h.0)))) (ap stamps drops.updates ∙ sym (list_is vm.mods.updates (λ i lt. let h = sound.updates i lt in (h.1.same, h.0))));
    agrees = agrees;
  }
