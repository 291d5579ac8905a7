-- Steps of the state, by what is kept.
use Rattle.std.proofs.Common.{◌≡◌, ◌≢◌, ℕ, suc, Bool, true, false, cond, Option, Some, None, option_map, refl, sym, ap, ◌∙◌, inl, inr, arith, Result, Ok, Err, OnOk, IfOk}
use Rattle.std.specs.Prelude.{◌==◌, nat_eq}
use Rattle.std.proofs.lemmas.Bool.{cases_eq}
use Rattle.gl_arena.specs.Arena.{amended}
use Rattle.gl_meaning.specs.Scope.{Source}
use Rattle.gl_plain.specs.Ids.{Kind, a_ref, a_node, an_instance, a_block, a_modifier, Id, ref, node, modifier_id}
use Rattle.gl_plain.specs.State.{Row, row, Content, content, Inst, instance_row, block_row, Installed, modifier_row, Thing, State, make, put_thing, dropped}
use Rattle.gl_vm.specs.Kept.{Kept, thing_at, next_of, state_by}

pub test_yes : (s q : ℕ) → q ≡ s → (q == s) ≡ true
test_yes s q e = grind arith

pub test_no : (s q : ℕ) → q ≢ s → (q == s) ≡ false
test_no s q ne = grind arith

pub num_yes : (s q : ℕ) → q ≡ s → nat_eq q s ≡ true
num_yes s q e = grind arith

pub num_no : (s q : ℕ) → q ≢ s → nat_eq q s ≡ false
num_no s q ne = grind arith

module _ {T : Type 0} (l : ℕ → Option T) (s : ℕ) (o : Option T) where
  pub amended_here : amended l s o s ≡ o
  unfolding amended
  amended_here = ap (λ b. cond b o (l s)) (test_yes s s refl)

  pub amended_off : (q : ℕ) → q ≢ s → amended l s o q ≡ l q
  unfolding amended
  amended_off q ne = ap (λ b. cond b o (l q)) (test_no s q ne)

  pub amended_is : (m : ℕ → Option T) → m s ≡ o → ((q : ℕ) → q ≢ s → m q ≡ l q) → m ≡ amended l s o
  amended_is m here others = λ t q. at q t where
    at : (q : ℕ) → m q ≡ amended l s o q
    at q = elim (cases_eq q s) [
      | inl e ↦ ap m e ∙ (here ∙ (sym amended_here ∙ ap (amended l s o) (sym e)))
      | inr ne ↦ others q ne ∙ sym (amended_off q ne)
    ]

  pub amended_thing : {A : Type 0} (f : T → A) (q : ℕ) → option_map f (amended l s o q) ≡ cond (nat_eq q s) (option_map f o) (option_map f (l q))
  amended_thing f q = elim (cases_eq q s) [
    | inl e ↦ ap (λ z. option_map f (amended l s o z)) e ∙ (ap (option_map f) amended_here ∙ sym (ap (λ b. cond b (option_map f o) (option_map f (l q))) (num_yes s q e)))
    | inr ne ↦ ap (option_map f) (amended_off q ne) ∙ sym (ap (λ b. cond b (option_map f o) (option_map f (l q))) (num_no s q ne))
  ]

pub on_ok : {T E : Type 0} {P Q R : Type 0} (r : Result T E) → (P → Q → R) → OnOk r P → OnOk r Q → OnOk r R
on_ok (Ok v) f p q = f p q
on_ok (Err e) f p q = p

pub both_if : {T E : Type 0} {P Q R : T → Type 0} (r : Result T E) → ((x : T) → P x → Q x → R x) → IfOk r P → IfOk r Q → IfOk r R
both_if (Ok v) f p q = f v p q
both_if (Err e) f p q = p

-- Two states that agree in all are one.
pub state_is : (a b : State) → a.look ≡ b.look → a.next ≡ b.next → a.touched ≡ b.touched → a.evaluated ≡ b.evaluated → a.installs ≡ b.installs → a.updates ≡ b.updates → a ≡ b
state_is a b l n t e i u = λ z. record { look = l z; next = n z; touched = t z; evaluated = e z; installs = i z; updates = u z }

pub look_is : (f g : Id → Option Thing) → ((k : Kind) (n : ℕ) → f (record { kind = k; num = n }) ≡ g (record { kind = k; num = n })) → f ≡ g
look_is f g h = λ t q. h q.kind q.num t

-- what is kept with one thing more, or another one in place of one
abbrev pub with_row : Row → Kept → Kept
with_row x k = record k { row = amended k.row k.rows (Some x); rows = suc k.rows }

abbrev pub with_node : Content → Kept → Kept
with_node x k = record k { node = amended k.node k.nodes (Some x); nodes = suc k.nodes }

abbrev pub with_inst : Inst → Kept → Kept
with_inst x k = record k { inst = amended k.inst k.insts (Some x); insts = suc k.insts }

abbrev pub with_block : Kept → Kept
with_block k = record k { block = amended k.block k.blocks (Some tt); blocks = suc k.blocks }

abbrev pub with_modifier : Installed → Kept → Kept
with_modifier x k = record k { modifier = amended k.modifier k.mods (Some x); mods = suc k.mods }

module _ (k : Kept) (touched : Source → Bool) where
  abbrev st : State
  st = state_by k touched

  made : (j : Kind) (x : Thing) (k' : Kept) → ((i : Kind) (n : ℕ) → thing_at k' i n ≡ (make j x st).look (record { kind = i; num = n })) → ((i : Kind) → next_of k' i ≡ (make j x st).next i)
      → k'.evaluated ≡ k.evaluated → k'.installs ≡ k.installs → k'.updates ≡ k.updates → state_by k' touched ≡ make j x st
  made j x k' l n e i u = state_is (state_by k' touched) (make j x st) (look_is _ _ l) (λ z q. n q z) refl e i u

  pub row_made : (x : Row) → state_by (with_row x k) touched ≡ make a_ref (row x) st
  row_made x = made a_ref (row x) (with_row x k) at after refl refl refl where
    at : (i : Kind) (n : ℕ) → thing_at (with_row x k) i n ≡ (make a_ref (row x) (state_by k touched)).look (record { kind = i; num = n })
    at a_ref n = amended_thing k.row k.rows (Some x) row n
    at a_node n = refl
    at an_instance n = refl
    at a_block n = refl
    at a_modifier n = refl

    after : (i : Kind) → next_of (with_row x k) i ≡ (make a_ref (row x) (state_by k touched)).next i
    after a_ref = refl
    after a_node = refl
    after an_instance = refl
    after a_block = refl
    after a_modifier = refl

  pub node_made : (x : Content) → state_by (with_node x k) touched ≡ make a_node (content x) st
  node_made x = made a_node (content x) (with_node x k) at after refl refl refl where
    at : (i : Kind) (n : ℕ) → thing_at (with_node x k) i n ≡ (make a_node (content x) (state_by k touched)).look (record { kind = i; num = n })
    at a_ref n = refl
    at a_node n = amended_thing k.node k.nodes (Some x) content n
    at an_instance n = refl
    at a_block n = refl
    at a_modifier n = refl

    after : (i : Kind) → next_of (with_node x k) i ≡ (make a_node (content x) (state_by k touched)).next i
    after a_ref = refl
    after a_node = refl
    after an_instance = refl
    after a_block = refl
    after a_modifier = refl

  pub inst_made : (x : Inst) → state_by (with_inst x k) touched ≡ make an_instance (instance_row x) st
  inst_made x = made an_instance (instance_row x) (with_inst x k) at after refl refl refl where
    at : (i : Kind) (n : ℕ) → thing_at (with_inst x k) i n ≡ (make an_instance (instance_row x) (state_by k touched)).look (record { kind = i; num = n })
    at a_ref n = refl
    at a_node n = refl
    at an_instance n = amended_thing k.inst k.insts (Some x) instance_row n
    at a_block n = refl
    at a_modifier n = refl

    after : (i : Kind) → next_of (with_inst x k) i ≡ (make an_instance (instance_row x) (state_by k touched)).next i
    after a_ref = refl
    after a_node = refl
    after an_instance = refl
    after a_block = refl
    after a_modifier = refl

  pub block_made : state_by (with_block k) touched ≡ make a_block block_row st
  block_made = made a_block block_row (with_block k) at after refl refl refl where
    at : (i : Kind) (n : ℕ) → thing_at (with_block k) i n ≡ (make a_block block_row (state_by k touched)).look (record { kind = i; num = n })
    at a_ref n = refl
    at a_node n = refl
    at an_instance n = refl
    at a_block n = amended_thing k.block k.blocks (Some tt) (λ u. block_row) n
    at a_modifier n = refl

    after : (i : Kind) → next_of (with_block k) i ≡ (make a_block block_row (state_by k touched)).next i
    after a_ref = refl
    after a_node = refl
    after an_instance = refl
    after a_block = refl
    after a_modifier = refl

  pub modifier_made : (x : Installed) → state_by (with_modifier x k) touched ≡ make a_modifier (modifier_row x) st
  modifier_made x = made a_modifier (modifier_row x) (with_modifier x k) at after refl refl refl where
    at : (i : Kind) (n : ℕ) → thing_at (with_modifier x k) i n ≡ (make a_modifier (modifier_row x) (state_by k touched)).look (record { kind = i; num = n })
    at a_ref n = refl
    at a_node n = refl
    at an_instance n = refl
    at a_block n = refl
    at a_modifier n = amended_thing k.modifier k.mods (Some x) modifier_row n

    after : (i : Kind) → next_of (with_modifier x k) i ≡ (make a_modifier (modifier_row x) (state_by k touched)).next i
    after a_ref = refl
    after a_node = refl
    after an_instance = refl
    after a_block = refl
    after a_modifier = refl

  put : (q : Id) (x : Thing) (k' : Kept) → ((i : Kind) (n : ℕ) → thing_at k' i n ≡ (put_thing q x st).look (record { kind = i; num = n })) → next_of k' ≡ next_of k
      → k'.evaluated ≡ k.evaluated → k'.installs ≡ k.installs → k'.updates ≡ k.updates → state_by k' touched ≡ put_thing q x st
  put q x k' l n e i u = state_is (state_by k' touched) (put_thing q x st) (look_is _ _ l) n refl e i u

  pub node_put : (s : ℕ) (x : Content) → state_by (record k { node = amended k.node s (Some x) }) touched ≡ put_thing (node s) (content x) st
  node_put s x = put (node s) (content x) (record k { node = amended k.node s (Some x) }) at (λ z j. same j z) refl refl refl where
    at : (i : Kind) (n : ℕ) → thing_at (record k { node = amended k.node s (Some x) }) i n ≡ (put_thing (node s) (content x) (state_by k touched)).look (record { kind = i; num = n })
    at a_ref n = refl
    at a_node n = amended_thing k.node s (Some x) content n
    at an_instance n = refl
    at a_block n = refl
    at a_modifier n = refl

    same : (i : Kind) → next_of (record k { node = amended k.node s (Some x) }) i ≡ next_of k i
    same a_ref = refl
    same a_node = refl
    same an_instance = refl
    same a_block = refl
    same a_modifier = refl

  pub row_put : (s : ℕ) (x : Row) → state_by (record k { row = amended k.row s (Some x) }) touched ≡ put_thing (ref s) (row x) st
  row_put s x = put (ref s) (row x) (record k { row = amended k.row s (Some x) }) at (λ z j. same j z) refl refl refl where
    at : (i : Kind) (n : ℕ) → thing_at (record k { row = amended k.row s (Some x) }) i n ≡ (put_thing (ref s) (row x) (state_by k touched)).look (record { kind = i; num = n })
    at a_ref n = amended_thing k.row s (Some x) row n
    at a_node n = refl
    at an_instance n = refl
    at a_block n = refl
    at a_modifier n = refl

    same : (i : Kind) → next_of (record k { row = amended k.row s (Some x) }) i ≡ next_of k i
    same a_ref = refl
    same a_node = refl
    same an_instance = refl
    same a_block = refl
    same a_modifier = refl

  pub modifier_put : (s : ℕ) (x : Installed) → state_by (record k { modifier = amended k.modifier s (Some x) }) touched ≡ put_thing (modifier_id s) (modifier_row x) st
  modifier_put s x = put (modifier_id s) (modifier_row x) (record k { modifier = amended k.modifier s (Some x) }) at (λ z j. same j z) refl refl refl where
    at : (i : Kind) (n : ℕ) → thing_at (record k { modifier = amended k.modifier s (Some x) }) i n ≡ (put_thing (modifier_id s) (modifier_row x) (state_by k touched)).look (record { kind = i; num = n })
    at a_ref n = refl
    at a_node n = refl
    at an_instance n = refl
    at a_block n = refl
    at a_modifier n = amended_thing k.modifier s (Some x) modifier_row n

    same : (i : Kind) → next_of (record k { modifier = amended k.modifier s (Some x) }) i ≡ next_of k i
    same a_ref = refl
    same a_node = refl
    same an_instance = refl
    same a_block = refl
    same a_modifier = refl

  -- all that are counted are gone
  pub dropped_is : (count : Id → ℕ) (k' : Kept) → ((i : Kind) (n : ℕ) → thing_at k' i n ≡ cond (nat_eq (count (record { kind = i; num = n })) 0) (thing_at k i n) None) → next_of k' ≡ next_of k
      → k'.evaluated ≡ k.evaluated → k'.installs ≡ k.installs → k'.updates ≡ k.updates → state_by k' touched ≡ dropped count st
  dropped_is count k' l n e i u = state_is (state_by k' touched) (dropped count st) (look_is _ _ l) n refl e i u
