-- What references of a machine that names by numbers mean, with the names of owners and sources.
use Rattle.std.specs.Prelude.{◌≡◌, ◌<◌, ℕ, List, map, Bool, false, Option, Some}
use Rattle.gl_value.specs.Owners.{with_owners}
use Rattle.gl_ast.specs.Template.{Expr, Exprs}
use Rattle.gl_arena.specs.Id as arena
use Rattle.gl_meaning.specs.App.{App}
use Rattle.gl_meaning.specs.Path.{Path}
use Rattle.gl_meaning.specs.Scope.{Source, Pair, sources_of}
use Rattle.gl_meaning.specs.Eval.{Store}
use Rattle.gl_meaning.specs.Changes.{Position}
use Rattle.gl_meaning.specs.Laws.{KeepsAll}
use Rattle.gl_refs.specs.Forms as forms
use Rattle.gl_refs.specs.Refs.{Refs, forms_of, meaning_of}
use Rattle.gl_plain.specs.Ids.{a_ref, Id, ref, occurs}
use Rattle.gl_plain.specs.State.{any_of, all_form, MScope, inst_of, row, Thing, State, pair_of}
use Rattle.gl_plain.specs.Naming.{by_number}
use Rattle.gl_plain.specs.Binding.{bind_expr_as, bind_exprs_as}
use Rattle.gl_plain.specs.Renew.{spot_ids, last_of, evaluate}
use Rattle.gl_plain.specs.Stands.{CellsIn, ScopeBelow}
use Rattle.gl_naming.specs.Renamed.{pair_with, OwnerRight}
use Rattle.gl_vm.specs.Led.{held_of, leads_to}
use Rattle.gl_vm.specs.Labels.{labelled}
use Rattle.gl_vm.specs.View.{source_of, seen_pair}

-- f gives each owner its name, and g each source. What the reference with each number means, in a state ..
abbrev pub sees : (Path → Path) → (Source → Source) → (Id → Option Thing) → ℕ → Pair
sees f g look r = pair_with f g (pair_of look r)

-- .. and in code
abbrev pub meant : (Path → Path) → (Source → Source) → Refs → arena.Id → Pair
meant f g refs id = pair_with f g (seen_pair refs (meaning_of refs id))

-- What is kept of a reference's last evaluation: the value, and the sources of those to whose tags its tag leads.
pub record Gave (f : Path → Path) (g : Source → Source) (refs : Refs) (id : arena.Id) (p : Pair) : Type 0 where
  pub value : with_owners f (labelled (held_of refs id)) ≡ p.value
  pub sources : (test : Source → Bool) → leads_to refs id (λ t. test (g (source_of refs t))) ≡ any_of p.sources test

-- Expressions

-- What a scope was before n was made, with the names: its references have lower numbers, the owner of its instance is the instance's path,
-- and its cells hold what the store has, each with its field as the source.
pub record Seen (f : Path → Path) (g : Source → Source) (app : App) (τ : Store) (n : ℕ) (ms : MScope) (look : Id → Option Thing) : Type 0 where
  pub low : ScopeBelow app n ms
  pub owner : OwnerRight f g (inst_of ms)
  pub cells : CellsIn app τ (sees f g look) ms

-- The reference with number r computes the expression in the scope: it was bound for it, by numbers, in some state, and what was made for it
-- is there as it was made.
pub record Computes (f : Path → Path) (g : Source → Source) (app : App) (τ : Store) (ms : MScope) (e : Expr) (look : Id → Option Thing) (r : ℕ) : Type 0 where
  pub before : State
  pub scope : Seen f g app τ (before.next a_ref) ms look
  pub is : (bind_expr_as by_number app ms e before).id ≡ r
  pub there : let b = bind_expr_as by_number app ms e before in (q : ℕ) → 0 < occurs (ref q) b.made → look (ref q) ≡ b.state.look (ref q)

-- The same of several, each with its expression.
pub record ComputeAll (f : Path → Path) (g : Source → Source) (app : App) (τ : Store) (ms : MScope) (es : Exprs) (look : Id → Option Thing) (rs : List ℕ) : Type 0 where
  pub before : State
  pub scope : Seen f g app τ (before.next a_ref) ms look
  pub is : (bind_exprs_as by_number app ms es before).ids ≡ rs
  pub there : let b = bind_exprs_as by_number app ms es before in (q : ℕ) → 0 < occurs (ref q) b.made → look (ref q) ≡ b.state.look (ref q)

-- Positions

-- A position of a tree, by its path and its number, and one of a rendering, which has the Pair of each of its expressions. What the one read
-- last are just the sources of the other's Pairs.
pub record HasRead (g : Source → Source) (st : State) (z : Path × ℕ) (o : Position) : Type 0 where
  pub path : o.path ≡ z.0
  pub sources : (test : Source → Bool) → last_of (st.look (ref z.1)) (λ x. test (g x)) ≡ any_of (sources_of o.pairs) test

-- What it reads means each of the other's Pairs still, of which no source was touched.
pub record MeansStill (f : Path → Path) (g : Source → Source) (touched : Source → Bool) (st : State) (z : Path × ℕ) (o : Position) : Type 0 where
  pub path : o.path ≡ z.0
  pub keeps : KeepsAll (λ y. touched y ≡ false) o.pairs (map (sees f g st.look) (spot_ids (st.look (ref z.1))))

-- What it reads means the other's Pairs now. It read just their sources last, and an evaluation would read just them again.
pub record Evaluated (f : Path → Path) (g : Source → Source) (st : State) (z : Path × ℕ) (o : Position) : Type 0 where
  pub path : o.path ≡ z.0
  pub reads : List ℕ
  pub last : (Source → Bool) → Bool
  pub is : st.look (ref z.1) ≡ Some (row (record { form = all_form reads; last = last }))
  pub means : map (sees f g st.look) reads ≡ o.pairs
  pub sources : (test : Source → Bool) → last (λ x. test (g x)) ≡ any_of (sources_of o.pairs) test
  pub again : (test : Source → Bool) → last_of ((evaluate z.1 st).look (ref z.1)) (λ x. test (g x)) ≡ any_of (sources_of o.pairs) test

-- The same in code: the tag of its last evaluation leads to the tags of just these sources, and they are read for it, in order.
pub record EvaluatedIn (f : Path → Path) (g : Source → Source) (refs : Refs) (z : Path × ℕ) (o : Position) : Type 0 where
  pub path : o.path ≡ z.0
  pub id : arena.Id
  pub number : id.1 ≡ z.1
  pub reads : List arena.Id
  pub is : forms_of refs id ≡ Some (forms.all_form reads)
  pub means : map (meant f g refs) reads ≡ o.pairs
  pub sources : (test : Source → Bool) → leads_to refs id (λ t. test (g (source_of refs t))) ≡ any_of (sources_of o.pairs) test
  pub again : (meant f g refs id).sources ≡ sources_of o.pairs
