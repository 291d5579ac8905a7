-- How the owner of an action and the sources are named, and what is noted of what comes and goes.
use Rattle.std.specs.Prelude.{ℕ, [], ◌∷◌, ◌||◌, filter, nat_eq}
use Rattle.gl_base.specs.Texts.{Text}
use Rattle.gl_meaning.specs.Path.{at, Path, V}
use Rattle.gl_meaning.specs.Scope.{Source, cell, item_value, item_index}
use Rattle.gl_plain.specs.Ids.{a_ref, Id, modifier_id}
use Rattle.gl_plain.specs.State.{any_of, source_form, Inst, row, State, make, dropped, source_eq}

-- The theory names by paths. A machine that keeps no paths names by numbers: an owner by the number of its instance, and a source by the
-- number of the reference that holds its value. What binds, appends and updates is said once for any naming; a name that ends in `_as`
-- takes it first, and the same name without it is the one by paths.
pub record Naming : Type 0 where
  -- the owner of an action of the instance
  pub owner : Inst → Path
  -- the source of the cell with that reference, a field of the instance at a path
  pub cell_source : ℕ → Path → Text → Source
  -- the sources of an item's value and of its index, each with its reference, of the item at a path
  pub value_source : ℕ → Path → Source
  pub index_source : ℕ → Path → Source
  -- what is noted of a source that was made
  pub came : Source → State → State
  -- what is noted where all ids that are counted went
  pub went : (Id → ℕ) → State → State

-- Nothing is noted.
abbrev pub by_path : Naming
by_path = record {
  owner = λ i. i.path;
  cell_source = λ r p x. cell p x;
  value_source = λ r p. item_value p;
  index_source = λ r p. item_index p;
  came = λ x st. st;
  went = λ count st. st;
}

-- the source counts as touched
abbrev pub warmed : Source → State → State
warmed x st = record {
  look = st.look;
  next = st.next;
  touched = λ y. source_eq y x || st.touched y;
  evaluated = st.evaluated;
  installs = st.installs;
  updates = st.updates;
}

-- modifiers that are counted go out of the lists of this turn
abbrev pub unlogged : (Id → ℕ) → State → State
unlogged count st = record {
  look = st.look;
  next = st.next;
  touched = st.touched;
  evaluated = st.evaluated;
  installs = filter (λ m. nat_eq (count (modifier_id m)) 0) st.installs;
  updates = filter (λ m. nat_eq (count (modifier_id m)) 0) st.updates;
}

-- A number is told as a path of one step. A source that was made counts as touched, as its tag has the revision of this turn; a modifier
-- that goes is in no list any more. Neither is to be seen in what a turn does, which is not proved yet: no position that was there reads a
-- new source, and what is installed or updated in a turn doesn't go in it.
abbrev pub by_number : Naming
by_number = record {
  owner = λ i. at i.id ∷ [];
  cell_source = λ r p x. item_value (at r ∷ []);
  value_source = λ r p. item_value (at r ∷ []);
  index_source = λ r p. item_value (at r ∷ []);
  came = warmed;
  went = unlogged;
}

module _ (naming : Naming) where
  -- a reference is made that holds a source's value
  abbrev pub made_source : Source → V → State → State
  made_source x v st = naming.came x (make a_ref (row (record { form = source_form x v; last = any_of [] })) st)

  -- all ids that are counted go
  abbrev pub dropped_as : (Id → ℕ) → State → State
  dropped_as count st = naming.went count (dropped count st)
