-- Instances, blocks and modifiers as rows of the state.
use Rattle.std.proofs.Common.{◌≡◌, ℕ, suc, ◌+◌, true, false, Option, Some, None, option_map, IsSome, [], ◌∷◌, ◌++◌, refl, sym, ap, subst, ◌∙◌, arith}
use Rattle.std.proofs.lemmas.List.{map-append}
use Rattle.gl_arena.specs.Id.{Id}
use Rattle.gl_arena.specs.Arena.{Arena, named, by_stamp, amended, IsStamped, IsOwn, Sets, Gives}
use Rattle.gl_arena.proofs.Stamps.{gives-sets, by_stamp-live}
use Rattle.gl_scope.specs.Scope.{Block, Blocks}
use Rattle.gl_mods.specs.Mods as m
use Rattle.gl_plain.specs.Ids.{an_instance, a_block, a_modifier, modifier_id}
use Rattle.gl_plain.specs.State.{Installed, instance_row, block_row, modifier_row, make, put_thing, note_installed, note_updated}
use Rattle.gl_vm.specs.Labels.{all_labelled, names_labelled}
use Rattle.gl_vm.specs.Kept.{Kept, state_by}
use Rattle.gl_vm.specs.View.{stamps, seen_instance, seen_modifier, kept_of}
use Rattle.gl_vm.specs.Steps.{Does, Follows, Numbers, given_args, put_args}
use Rattle.gl_vm.specs.declared.vm.Vm.{Vm}
use Rattle.gl_vm.specs.declared.vm.Instance.{Instance}
use Rattle.gl_vm.proofs.States.{amended_is, with_inst, inst_made, with_block, block_made, with_modifier, modifier_made, modifier_put}

-- what is seen of an arena where one stamp's value is another
seen_sets : {T S : Type 0} (f : ℕ → T → S) (old new : Arena T) (s : ℕ) (v : T) → Sets old new s (Some v) → (λ k. option_map (f k) (by_stamp new k)) ≡ amended (λ k. option_map (f k) (by_stamp old k)) s (Some (f s v))
seen_sets f old new s v g =
    amended_is (λ k. option_map (f k) (by_stamp old k)) s (Some (f s v)) (λ k. option_map (f k) (by_stamp new k)) (ap (option_map (f s)) g.here) (λ q ne. ap (option_map (f q)) (g.others q ne))

more : (n m : ℕ) → n ≡ m + 1 → n ≡ suc m
more n m e = omega (arith, e)

module _ (vm : Vm) (a : Arena Instance) (id : Id) (x : Instance) (sets : Sets vm.instances a vm.instances.made (Some x)) (count : a.made ≡ vm.instances.made + 1) where
  pub inst_step : Does (λ n. make an_instance (instance_row (seen_instance n vm.instances.made x))) vm (record vm { instances = a })
  inst_step n touched agrees = record {
    state = ap (λ (k : Kept). state_by k touched) kept-is ∙ inst_made (kept_of n vm) touched (seen_instance n vm.instances.made x);
    agrees = agrees;
  }
    where
      kept-is : kept_of n (record vm { instances = a }) ≡ with_inst (seen_instance n vm.instances.made x) (kept_of n vm)
      kept-is = λ z. record (kept_of n vm) { inst = seen_sets (seen_instance n) vm.instances a vm.instances.made x sets z; insts = more a.made vm.instances.made count z }

  pub inst_numbers : id.1 ≡ vm.instances.made → IsOwn a id → Numbers vm.instances a id
  inst_numbers e own = record { stamp = e; own = own; olds = sets.own }

module _ (vm : Vm) (a : Blocks) (id : Id) (x : Block) (stamped : IsStamped vm.scopes) (gives : Gives vm.scopes a id x) where
  block-sets : Sets vm.scopes a vm.scopes.made (Some x) × IsOwn a id
  block-sets = gives-sets vm.scopes a id x stamped gives

  pub block_step : Does (λ n. make a_block block_row) vm (record vm { scopes = a })
  block_step n touched agrees = record {
    state = ap (λ (k : Kept). state_by k touched) kept-is ∙ block_made (kept_of n vm) touched;
    agrees = agrees;
  }
    where
      kept-is : kept_of n (record vm { scopes = a }) ≡ with_block (kept_of n vm)
      kept-is = λ z. record (kept_of n vm) { block = seen_sets (λ k b. tt) vm.scopes a vm.scopes.made x block-sets.0 z; blocks = more a.made vm.scopes.made gives.count z }

  pub block_numbers : Numbers vm.scopes a id
  block_numbers = record { stamp = gives.stamp; own = block-sets.1; olds = block-sets.0.own }

  pub block_there : by_stamp a vm.scopes.made ≡ Some x
  block_there = block-sets.0.here

module _ (vm : Vm) (s : m.Mods) (id : Id) (x : m.Installed) (installs : m.Installs vm.mods s id x) where
  pub install_step : Does (λ n st. note_installed vm.mods.table.made (make a_modifier (modifier_row (seen_modifier n x)) st)) vm (record vm { mods = s })
  install_step n touched agrees = record {
    state = ap (λ (k : Kept). state_by k touched) kept-is ∙ ap (note_installed vm.mods.table.made) (modifier_made (kept_of n vm) touched (seen_modifier n x));
    agrees = agrees;
  }
    where
      listed : stamps s.installs ≡ stamps vm.mods.installs ++ vm.mods.table.made ∷ []
      listed = ap stamps installs.installs ∙ (map-append (λ i. i.1) vm.mods.installs (id ∷ []) ∙ ap (λ i. stamps vm.mods.installs ++ i ∷ []) installs.gives.stamp)

      kept-is : kept_of n (record vm { mods = s }) ≡ record (with_modifier (seen_modifier n x) (kept_of n vm)) { installs = stamps vm.mods.installs ++ vm.mods.table.made ∷ [] }
      kept-is = λ z. record (kept_of n vm) {
        modifier = seen_sets (λ k. seen_modifier n) vm.mods.table s.table vm.mods.table.made x installs.stamps z;
        mods = more s.table.made vm.mods.table.made installs.gives.count z;
        installs = listed z;
        updates = stamps (installs.updates z);
      }

  pub install_numbers : Numbers vm.mods.table s.table id
  install_numbers = record { stamp = installs.gives.stamp; own = installs.own; olds = installs.stamps.own }

module _ (vm : Vm) (s : m.Mods) (id : Id) (args : m.Args) (named_args : m.NamedArgs) (stamped : IsStamped vm.mods.table) (live : IsSome (named vm.mods.table id)) (does : m.Refreshes vm.mods s id args named_args) where
  pub refresh_step : Does (λ n. put_args id.1 (all_labelled args) (names_labelled named_args)) vm (record vm { mods = s })
  refresh_step n touched agrees = by_row (named vm.mods.table id) refl live where
    listed : stamps s.updates ≡ stamps vm.mods.updates ++ id.1 ∷ []
    listed = ap stamps does.updates ∙ map-append (λ i. i.1) vm.mods.updates (id ∷ [])

    by_row : (o : Option m.Installed) → named vm.mods.table id ≡ o → IsSome o → Follows n (put_args id.1 (all_labelled args) (names_labelled named_args) (state_by (kept_of n vm) touched)) (record vm { mods = s })
    by_row None e l = let no : false ≡ true = l in absurd (cc)
    by_row (Some x) e l = record {
      state = ap (λ (k : Kept). state_by k touched) kept-is
          ∙ (ap (note_updated id.1) (modifier_put (kept_of n vm) touched id.1 given)
          ∙ ap (λ o. note_updated id.1 (put_thing (modifier_id id.1) (modifier_row (given_args (all_labelled args) (names_labelled named_args) (option_map modifier_row (option_map (seen_modifier n) o)))) (state_by (kept_of n vm) touched))) (sym here));
      agrees = agrees;
    }
      where
        here : by_stamp vm.mods.table id.1 ≡ Some x
        here = by_stamp-live vm.mods.table id x stamped e

        given : Installed
        given = seen_modifier n (m.with_values args named_args x)

        kept-is : kept_of n (record vm { mods = s }) ≡ record (kept_of n vm) { modifier = amended (kept_of n vm).modifier id.1 (Some given); updates = stamps vm.mods.updates ++ id.1 ∷ [] }
        kept-is = λ z. record (kept_of n vm) {
          modifier = seen_sets (λ k. seen_modifier n) vm.mods.table s.table id.1 (m.with_values args named_args x) (subst (λ (o : Option m.Installed). Sets vm.mods.table s.table id.1 (option_map (m.with_values args named_args) o)) here does.stamps) z;
          mods = does.made z;
          installs = stamps (does.installs z);
          updates = listed z;
        }
