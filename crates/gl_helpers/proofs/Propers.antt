-- What the helpers give of proper arguments keeps the bounds and the order of keys.
use Rattle.std.proofs.Common.{◌≤◌, ℕ, zero, suc, ℤ, pos, List, [], ◌∷◌, ◌++◌, Bool, true, false, cond, not, map, filter, reverse, arith}
use Rattle.std.specs.Prelude.{◌≤ℤ◌, ◌+ℤ◌, ◌-ℤ◌, ◌*ℤ◌, ◌&&◌, int_lt, length}
use Rattle.std.specs.Bool.{beq}
use Rattle.std.specs.Int.{int_min, int_max}
use Rattle.std.specs.Ordering.{int_eq}
use Rattle.std.proofs.lemmas.Int.{ints, clamps}
use Rattle.std.proofs.lemmas.List.{reverse-append}
use Rattle.gl_base.specs.Texts.{Text}
use Rattle.gl_base.specs.Names.{at_place}
use Rattle.gl_value.specs.Value.{Value, undefined, null, boolean, integer, text, list, pairs, action, Values, no_values, value, values_depth, values_count, values_of, list_of, truthy, text_of, property, split}
use Rattle.gl_value.specs.Helpers.{number_of, items_in, members_in, clamp, more_fixed, rest_of, first_with, length_value, at_places, is_before, raw_value, argument, has_property}
use Rattle.gl_value.specs.Proper.{Keeps, KeepAll, KeepMembers, IsProper}
use Rattle.gl_value.specs.Scalar.{least, greatest}
use Rattle.gl_value.proofs.Keeping.{KeepAll-append}
use Rattle.gl_value.proofs.Propers.{count_proper, property_proper, properties_proper}
use Rattle.gl_value.proofs.Values.{values_of-list_of}
use Rattle.gl_helpers.specs.Proper.{AllProper}
use Rattle.gl_helpers.specs.View.{seen_choice, seen_number, seen_test, seen_listing, seen_writing}
use Rattle.gl_helpers.specs.declared.helper.Choice.{Choice}
use Rattle.gl_helpers.specs.declared.helper.Choice.TheVariants as choice
use Rattle.gl_helpers.specs.declared.helper.Number.{Number}
use Rattle.gl_helpers.specs.declared.helper.Number.TheVariants as number
use Rattle.gl_helpers.specs.declared.helper.Test.{Test}
use Rattle.gl_helpers.specs.declared.helper.Test.TheVariants as test
use Rattle.gl_helpers.specs.declared.helper.Listing.{Listing}
use Rattle.gl_helpers.specs.declared.helper.Listing.TheVariants as listing
use Rattle.gl_helpers.specs.declared.helper.Writing.{Writing}
use Rattle.gl_helpers.specs.declared.helper.Writing.TheVariants as writing

bounded : (z : ℤ) → (least ≤ℤ clamp z) × (clamp z ≤ℤ greatest)
bounded z = (omega (arith, ints, clamps), omega (arith, ints, clamps))

between_min : (x y : ℤ) → (least ≤ℤ x) × (x ≤ℤ greatest) → (least ≤ℤ y) × (y ≤ℤ greatest) → (least ≤ℤ int_min x y) × (int_min x y ≤ℤ greatest)
between_min x y h k = (omega (arith, ints, clamps), omega (arith, ints, clamps))

between_max : (x y : ℤ) → (least ≤ℤ x) × (x ≤ℤ greatest) → (least ≤ℤ y) × (y ≤ℤ greatest) → (least ≤ℤ int_max x y) × (int_max x y ≤ℤ greatest)
between_max x y h k = (omega (arith, ints, clamps), omega (arith, ints, clamps))

small : (n : ℕ) → n ≤ 1 → (least ≤ℤ pos n) × (pos n ≤ℤ greatest)
small n h = (omega (arith, ints), omega (arith, ints))

undefined_proper : (O : Type 0) → IsProper {O = O} undefined
undefined_proper O = (omega arith, tt)

module _ {O : Type 0} where
  chosen_keeps : (b : Bool) (v w : Value O) → Keeps v → Keeps w → Keeps (cond b v w)
  chosen_keeps true v w h k = h
  chosen_keeps false v w h k = k

  -- an argument
  argument_proper : (i : ℕ) (vs : List (Value O)) → AllProper vs → IsProper (at_place undefined i vs)
  argument_proper i [] h = undefined_proper O
  argument_proper zero (v ∷ vs) h = h.0
  argument_proper (suc i) (v ∷ vs) h = argument_proper i vs h.1

  pub argument_keeps : (i : ℕ) (vs : List (Value O)) → AllProper vs → Keeps (at_place undefined i vs)
  argument_keeps i vs h = (argument_proper i vs h).1

  all_keep : (vs : List (Value O)) → AllProper vs → KeepAll (values_of vs)
  all_keep [] h = tt
  all_keep (v ∷ vs) h = (h.0.1, all_keep vs h.1)

  rest_keep : (vs : List (Value O)) → AllProper vs → KeepAll (values_of (rest_of vs))
  rest_keep [] h = tt
  rest_keep (v ∷ vs) h = all_keep vs h.1

  -- the items of a list, and the members of a record
  pub items_keep : (v : Value O) → Keeps v → KeepAll (values_of (items_in v))
  items_keep undefined h = tt
  items_keep null h = tt
  items_keep (boolean b) h = tt
  items_keep (integer i) h = tt
  items_keep (text t) h = tt
  items_keep (list vs) h = rw (values_of-list_of vs) h
  items_keep (pairs ms) h = tt
  items_keep (action o n vs) h = tt

  pub members_keep : (v : Value O) → Keeps v → KeepMembers (members_in v)
  members_keep undefined h = tt
  members_keep null h = tt
  members_keep (boolean b) h = tt
  members_keep (integer i) h = tt
  members_keep (text t) h = tt
  members_keep (list vs) h = tt
  members_keep (pairs ms) h = h
  members_keep (action o n vs) h = tt

  number_between : (v : Value O) → Keeps v → (least ≤ℤ number_of v) × (number_of v ≤ℤ greatest)
  number_between undefined h = small 0 (omega arith)
  number_between null h = small 0 (omega arith)
  number_between (boolean true) h = small 1 (omega arith)
  number_between (boolean false) h = small 0 (omega arith)
  number_between (integer i) h = h
  number_between (text t) h = small 0 (omega arith)
  number_between (list vs) h = small 0 (omega arith)
  number_between (pairs ms) h = small 0 (omega arith)
  number_between (action o n vs) h = small 0 (omega arith)

  length_keeps : (v : Value O) → Keeps (length_value v)
  length_keeps undefined = small 0 (omega arith)
  length_keeps null = small 0 (omega arith)
  length_keeps (boolean b) = small 0 (omega arith)
  length_keeps (integer i) = small 0 (omega arith)
  length_keeps (text t) = (count_proper O (length t)).1
  length_keeps (list vs) = (count_proper O (values_count vs)).1
  length_keeps (pairs ms) = small 0 (omega arith)
  length_keeps (action o n vs) = small 0 (omega arith)

  first_keeps : (truth : Bool) (last : Value O) (vs : List (Value O)) → Keeps last → KeepAll (values_of vs) → Keeps (first_with truth last vs)
  first_keeps truth last [] h k = h
  first_keeps truth last (v ∷ vs) h k = chosen_keeps (beq (truthy v) truth) v (first_with truth v vs) k.0 (first_keeps truth v vs k.0 k.1)

  joined_keep : (vs ws : List (Value O)) → KeepAll (values_of vs) → KeepAll (values_of ws) → KeepAll (values_of (vs ++ ws))
  joined_keep [] ws h k = k
  joined_keep (v ∷ vs) ws h k = (h.0, joined_keep vs ws h.1 k)

  fixed_keep : (v : Value O) (ws : List (Value O)) → Keeps v → KeepAll (values_of ws) → Keeps (more_fixed v ws)
  fixed_keep undefined ws h k = tt
  fixed_keep null ws h k = tt
  fixed_keep (boolean b) ws h k = tt
  fixed_keep (integer i) ws h k = tt
  fixed_keep (text t) ws h k = tt
  fixed_keep (list vs) ws h k = tt
  fixed_keep (pairs ms) ws h k = tt
  fixed_keep (action o n vs) ws h k = joined_keep (list_of vs) ws (rw (values_of-list_of vs) h) k

  some_keep : (b : Bool) (v : Value O) (vs : List (Value O)) → Keeps v → KeepAll (values_of vs) → KeepAll (values_of (cond b (v ∷ vs) vs))
  some_keep true v vs h k = (h, k)
  some_keep false v vs h k = k

  filter_keeps : (test : Value O → Bool) (vs : List (Value O)) → KeepAll (values_of vs) → KeepAll (values_of (filter test vs))
  filter_keeps test [] h = tt
  filter_keeps test (v ∷ vs) h = some_keep (test v) v (filter test vs) h.0 (filter_keeps test vs h.1)

  places_keep : (test : ℤ → Bool) (i : ℕ) (vs : List (Value O)) → KeepAll (values_of vs) → KeepAll (values_of (at_places test i vs))
  places_keep test i [] h = tt
  places_keep test i (v ∷ vs) h = some_keep (test (pos i)) v (at_places test (suc i) vs) h.0 (places_keep test (suc i) vs h.1)

  reverse_keeps : (vs : List (Value O)) → KeepAll (values_of vs) → KeepAll (values_of (reverse vs))
  reverse_keeps [] h = tt
  reverse_keeps (v ∷ vs) h = rw (reverse-append (v ∷ []) vs) (joined_keep (reverse vs) (v ∷ []) (reverse_keeps vs h.1) (h.0, tt))

  -- the items of a proper value are proper
  items_proper : (v : Value O) → IsProper v → AllProper (items_in v)
  items_proper undefined h = tt
  items_proper null h = tt
  items_proper (boolean b) h = tt
  items_proper (integer i) h = tt
  items_proper (text t) h = tt
  items_proper (list vs) h = each_proper vs (omega arith) h.1
    where
      each_proper : (vs : Values O) → values_depth vs ≤ 100 → KeepAll vs → AllProper (list_of vs)
      each_proper no_values d k = tt
      each_proper (value v vs) d k = ((omega arith, k.0), each_proper vs (omega arith) k.1)
  items_proper (pairs ms) h = tt
  items_proper (action o n vs) h = tt

  plucked_keep : (k : Text) (vs : List (Value O)) → AllProper vs → KeepAll (values_of (map (property k) vs))
  plucked_keep k [] h = tt
  plucked_keep k (v ∷ vs) h = ((property_proper O k v h.0).1, plucked_keep k vs h.1)

-- what helpers of each kind give
module _ {O : Type 0} (eq : O → O → Bool) (args : List (Value O)) (names : List (Text × Value O)) (h : AllProper args) where
  pub choice_keeps : (c : Choice) → Keeps (raw_value eq args names (seen_choice c))
  choice_keeps choice.If = chosen_keeps (truthy (argument eq args names 0)) (argument eq args names 1) (argument eq args names 2) (argument_keeps 1 args h) (argument_keeps 2 args h)
  choice_keeps choice.Unless = chosen_keeps (truthy (argument eq args names 0)) (argument eq args names 2) (argument eq args names 1) (argument_keeps 2 args h) (argument_keeps 1 args h)
  choice_keeps choice.Get = (properties_proper O (split 46 (text_of (argument eq args names 1))) (argument eq args names 0) (argument_proper 0 args h)).1
  choice_keeps choice.Fix = fixed_keep (argument eq args names 0) (rest_of args) (argument_keeps 0 args h) (rest_keep args h)
  choice_keeps choice.And = first_keeps false undefined args tt (all_keep args h)
  choice_keeps choice.Or = first_keeps true undefined args tt (all_keep args h)

  pub number_keeps : (n : Number) → Keeps (raw_value eq args names (seen_number n))
  number_keeps number.Add = bounded (number_of (argument eq args names 0) +ℤ number_of (argument eq args names 1))
  number_keeps number.Sub = bounded (number_of (argument eq args names 0) -ℤ number_of (argument eq args names 1))
  number_keeps number.Mul = bounded (number_of (argument eq args names 0) *ℤ number_of (argument eq args names 1))
  number_keeps number.Min = between_min (number_of (argument eq args names 0)) (number_of (argument eq args names 1)) (number_between (argument eq args names 0) (argument_keeps 0 args h)) (number_between (argument eq args names 1) (argument_keeps 1 args h))
  number_keeps number.Max = between_max (number_of (argument eq args names 0)) (number_of (argument eq args names 1)) (number_between (argument eq args names 0) (argument_keeps 0 args h)) (number_between (argument eq args names 1) (argument_keeps 1 args h))
  number_keeps number.Length = length_keeps (argument eq args names 0)

  pub test_keeps : (t : Test) → Keeps (raw_value eq args names (seen_test t))
  test_keeps test.Same = tt
  test_keeps test.Differs = tt
  test_keeps test.Not = tt
  test_keeps test.Less = tt
  test_keeps test.LessOrSame = tt
  test_keeps test.Greater = tt
  test_keeps test.GreaterOrSame = tt
  test_keeps test.Includes = tt

  first_items : KeepAll (values_of (items_in (argument eq args names 0)))
  first_items = items_keep (argument eq args names 0) (argument_keeps 0 args h)

  pub listing_keeps : (l : Listing) → Keeps (raw_value eq args names (seen_listing l))
  listing_keeps listing.Array = all_keep args h
  listing_keeps listing.Append = KeepAll-append (items_in (argument eq args names 0)) (argument eq args names 1) first_items (argument_keeps 1 args h)
  listing_keeps listing.RemoveAt = places_keep (λ p. not (int_eq p (number_of (argument eq args names 1)))) 0 (items_in (argument eq args names 0)) first_items
  listing_keeps listing.Slice = places_keep (λ p. not (int_lt p (number_of (argument eq args names 1))) && is_before p (argument eq args names 2)) 0 (items_in (argument eq args names 0)) first_items
  listing_keeps listing.Reverse = reverse_keeps (items_in (argument eq args names 0)) first_items
  listing_keeps listing.Where = filter_keeps (has_property eq args names) (items_in (argument eq args names 0)) first_items
  listing_keeps listing.RemoveWhere = filter_keeps (λ v. not (has_property eq args names v)) (items_in (argument eq args names 0)) first_items
  listing_keeps listing.Pluck = plucked_keep (text_of (argument eq args names 1)) (items_in (argument eq args names 0)) (items_proper (argument eq args names 0) (argument_proper 0 args h))

  pub writing_keeps : (w : Writing) → Keeps (raw_value eq args names (seen_writing w))
  writing_keeps writing.Concat = tt
  writing_keeps writing.Join = tt
