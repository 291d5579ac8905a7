-- Helpers on values with other owners.
use Rattle.std.proofs.Common.{◌≡◌, ℕ, zero, suc, ℤ, pos, negsuc, List, [], ◌∷◌, ◌++◌, map, Bool, true, false, cond, refl, ap, ap₂, sym, ◌∙◌}
use Rattle.std.specs.Prelude.{◌&&◌, ◌||◌, not, codes, nat_lt, int_lt, filter, reverse, flat_map}
use mathlib.Core.List.{reverse_aux}
use Rattle.std.specs.Ordering.{int_eq}
use Rattle.std.specs.List.{list_any}
use Rattle.std.specs.Str.{bytes_eq}
use Rattle.std.specs.Bool.{beq}
use Rattle.std.proofs.lemmas.List.{map-append}
use Rattle.gl_base.specs.Texts.{Text, text_less}
use Rattle.gl_base.specs.Names.{at_place}
use Rattle.gl_value.specs.Value.{Value, undefined, null, boolean, integer, text, list, pairs, action, Values, no_values, value, Members, no_members, member, depth, truthy, same, text_of, property, properties, split, values_of, list_of}
use Rattle.gl_value.specs.Owners.{with_owners, values_with, members_with}
use Rattle.gl_value.specs.Laws.{DecidesEqual}
use Rattle.gl_value.proofs.Owners.{rules_leave_owners, property_keeps_owners, same_leaves_owners}
use Rattle.gl_value.specs.Helpers as h
use Rattle.gl_labels.specs.Laws.{names_with, HelpersKeepOwners}

-- Lists

module _ {A B : Type 0} (f : A → B) where
  place-map : (d : A) (i : ℕ) (xs : List A) → at_place (f d) i (map f xs) ≡ f (at_place d i xs)
  place-map d i [] = refl
  place-map d zero (x ∷ xs) = refl
  place-map d (suc i) (x ∷ xs) = place-map d i xs

  rest-map : (xs : List A) → h.rest_of (map f xs) ≡ map f (h.rest_of xs)
  rest-map [] = refl
  rest-map (x ∷ xs) = refl

  cond-list : (xs : List A) {ys : List B} (b : Bool) {c : Bool} → c ≡ b → (x : A) → ys ≡ map f xs → cond c (f x ∷ ys) ys ≡ map f (cond b (x ∷ xs) xs)
  cond-list xs {ys = ys} true q x e = ap (λ b. cond b (f x ∷ ys) ys) q ∙ ap (λ r. f x ∷ r) e
  cond-list xs {ys = ys} false q x e = ap (λ b. cond b (f x ∷ ys) ys) q ∙ e

  places-map : (test : ℤ → Bool) (i : ℕ) (xs : List A) → h.at_places test i (map f xs) ≡ map f (h.at_places test i xs)
  places-map test i [] = refl
  places-map test i (x ∷ xs) = cond-list (h.at_places test (suc i) xs) (test (pos i)) refl x (places-map test (suc i) xs)

  reverse_aux-map : (xs ys : List A) → reverse_aux (map f xs) (map f ys) ≡ map f (reverse_aux xs ys)
  reverse_aux-map [] ys = refl
  reverse_aux-map (x ∷ xs) ys = reverse_aux-map xs (x ∷ ys)

  reverse-map : (xs : List A) → reverse (map f xs) ≡ map f (reverse xs)
  reverse-map xs = reverse_aux-map xs []

  any-map : (p : A → Bool) (q : B → Bool) → ((x : A) → q (f x) ≡ p x) → (xs : List A) → list_any q (map f xs) ≡ list_any p xs
  any-map p q e [] = refl
  any-map p q e (x ∷ xs) = ap₂ (λ a b. a || b) (e x) (any-map p q e xs)

  filter-map : (p : A → Bool) (q : B → Bool) → ((x : A) → q (f x) ≡ p x) → (xs : List A) → filter q (map f xs) ≡ map f (filter p xs)
  filter-map p q e [] = refl
  filter-map p q e (x ∷ xs) = cond-list (filter p xs) (p x) (e x) x (filter-map p q e xs)

  maps-map : (g : A → A) (k : B → B) → ((x : A) → k (f x) ≡ f (g x)) → (xs : List A) → map k (map f xs) ≡ map f (map g xs)
  maps-map g k e [] = refl
  maps-map g k e (x ∷ xs) = ap₂ (λ a b. a ∷ b) (e x) (maps-map g k e xs)

  told-map : {C : Type 0} (g : A → C) (k : B → C) → ((x : A) → k (f x) ≡ g x) → (xs : List A) → map k (map f xs) ≡ map g xs
  told-map g k e [] = refl
  told-map g k e (x ∷ xs) = ap₂ (λ a b. a ∷ b) (e x) (told-map g k e xs)

  flat-map : {C : Type 0} (g : A → List C) (k : B → List C) → ((x : A) → k (f x) ≡ g x) → (xs : List A) → flat_map k (map f xs) ≡ flat_map g xs
  flat-map g k e [] = refl
  flat-map g k e (x ∷ xs) = ap₂ (λ a b. a ++ b) (e x) (flat-map g k e xs)

-- Values

module _ {O P : Type 0} (f : O → P) where
  abbrev on : Value O → Value P
  on v = with_owners f v

  truthy-on : (v : Value O) → truthy (on v) ≡ truthy v
  truthy-on v = (rules_leave_owners f v).0

  text-on : (v : Value O) → text_of (on v) ≡ text_of v
  text-on v = (rules_leave_owners f v).1

  number-on : (v : Value O) → h.number_of (on v) ≡ h.number_of v
  number-on undefined = refl
  number-on null = refl
  number-on (boolean true) = refl
  number-on (boolean false) = refl
  number-on (integer i) = refl
  number-on (text t) = refl
  number-on (list vs) = refl
  number-on (pairs ms) = refl
  number-on (action o n vs) = refl

  list-on : (vs : Values O) → list_of (values_with f vs) ≡ map on (list_of vs)
  list-on no_values = refl
  list-on (value v vs) = ap (λ r. on v ∷ r) (list-on vs)

  values-on : (vs : List (Value O)) → values_of (map on vs) ≡ values_with f (values_of vs)
  values-on [] = refl
  values-on (v ∷ vs) = ap (value (on v)) (values-on vs)

  items-on : (v : Value O) → h.items_in (on v) ≡ map on (h.items_in v)
  items-on undefined = refl
  items-on null = refl
  items-on (boolean b) = refl
  items-on (integer i) = refl
  items-on (text t) = refl
  items-on (list vs) = list-on vs
  items-on (pairs ms) = refl
  items-on (action o n vs) = refl

  members-on : (v : Value O) → h.members_in (on v) ≡ members_with f (h.members_in v)
  members-on undefined = refl
  members-on null = refl
  members-on (boolean b) = refl
  members-on (integer i) = refl
  members-on (text t) = refl
  members-on (list vs) = refl
  members-on (pairs ms) = refl
  members-on (action o n vs) = refl

  record-on : (v : Value O) → h.is_record (on v) ≡ h.is_record v
  record-on undefined = refl
  record-on null = refl
  record-on (boolean b) = refl
  record-on (integer i) = refl
  record-on (text t) = refl
  record-on (list vs) = refl
  record-on (pairs ms) = refl
  record-on (action o n vs) = refl

  cond-on : (b : Bool) (v w : Value O) → cond b (on v) (on w) ≡ on (cond b v w)
  cond-on true v w = refl
  cond-on false v w = refl

  deep-on : (v : Value O) → h.not_deep (on v) ≡ on (h.not_deep v)
  deep-on v = ap (λ d. cond (nat_lt 100 d) undefined (on v)) (rules_leave_owners f v).3 ∙ cond-on (nat_lt 100 (depth v)) undefined v

  less-text : (t : Text) (w : Value O) → h.is_less (text t) (on w) ≡ h.is_less {O = O} (text t) w
  less-text t undefined = refl
  less-text t null = refl
  less-text t (boolean b) = ap (int_lt (pos 0)) (number-on (boolean b))
  less-text t (integer i) = refl
  less-text t (text u) = refl
  less-text t (list vs) = refl
  less-text t (pairs ms) = refl
  less-text t (action o n vs) = refl

  less-on : (v w : Value O) → h.is_less (on v) (on w) ≡ h.is_less v w
  less-on undefined w = ap (int_lt (pos 0)) (number-on w)
  less-on null w = ap (int_lt (pos 0)) (number-on w)
  less-on (boolean b) w = ap₂ int_lt (number-on (boolean b)) (number-on w)
  less-on (integer i) w = ap (int_lt i) (number-on w)
  less-on (text t) w = less-text t w
  less-on (list vs) w = ap (int_lt (pos 0)) (number-on w)
  less-on (pairs ms) w = ap (int_lt (pos 0)) (number-on w)
  less-on (action o n vs) w = ap (int_lt (pos 0)) (number-on w)

  put-cases : (b c : Bool) (k l : Text) (x y : Value O) (ms ns : Members O) {ps : Members P} → ps ≡ members_with f ns
      → cond b (member k (on x) (members_with f ms)) (cond c (member k (on x) (member l (on y) (members_with f ms))) (member l (on y) ps))
      ≡ members_with f (cond b (member k x ms) (cond c (member k x (member l y ms)) (member l y ns)))
  put-cases true c k l x y ms ns e = refl
  put-cases false true k l x y ms ns e = refl
  put-cases false false k l x y ms ns e = ap (member l (on y)) e

  put-on : (k : Text) (x : Value O) (ms : Members O) → h.put_member k (on x) (members_with f ms) ≡ members_with f (h.put_member k x ms)
  put-on k x no_members = refl
  put-on k x (member l y ms) = put-cases (bytes_eq k l) (text_less k l) k l x y ms (h.put_member k x ms) (put-on k x ms)

  puts-on : (ms : Members O) (es : List (Text × Value O)) → h.members_of (members_with f ms) (names_with f es) ≡ members_with f (h.members_of ms es)
  puts-on ms [] = refl
  puts-on ms (e ∷ es) = ap (λ m. h.members_of m (names_with f es)) (put-on e.0 e.1 ms) ∙ puts-on (h.put_member e.0 e.1 ms) es

  fixed-on : (v : Value O) (ws : List (Value O)) → h.more_fixed (on v) (map on ws) ≡ on (h.more_fixed v ws)
  fixed-on undefined ws = refl
  fixed-on null ws = refl
  fixed-on (boolean b) ws = refl
  fixed-on (integer i) ws = refl
  fixed-on (text t) ws = refl
  fixed-on (list vs) ws = refl
  fixed-on (pairs ms) ws = refl
  fixed-on (action o n vs) ws =
      ap (action (f o) n) (ap (λ l. values_of (l ++ map on ws)) (list-on vs) ∙ (ap values_of (sym (map-append on (list_of vs) ws)) ∙ values-on (list_of vs ++ ws)))

  first-on : (b : Bool) (v : Value O) (vs : List (Value O)) → h.first_with b (on v) (map on vs) ≡ on (h.first_with b v vs)
  first-on b v [] = refl
  first-on b v (w ∷ ws) = ap (λ t. cond (beq t b) (on w) (h.first_with b (on w) (map on ws))) (truthy-on w) ∙ (ap (cond (beq (truthy w) b) (on w)) (first-on b w ws) ∙ cond-on (beq (truthy w) b) w (h.first_with b w ws))

  length-on : (v : Value O) → h.length_value (on v) ≡ on (h.length_value v)
  length-on undefined = refl
  length-on null = refl
  length-on (boolean b) = refl
  length-on (integer i) = refl
  length-on (text t) = property_keeps_owners f (codes "length") (text t)
  length-on (list vs) = property_keeps_owners f (codes "length") (list vs)
  length-on (pairs ms) = refl
  length-on (action o n vs) = refl

  before-on : (i : ℤ) (v : Value O) → h.is_before i (on v) ≡ h.is_before i v
  before-on i undefined = refl
  before-on i null = refl
  before-on i (boolean b) = ap (int_lt i) (number-on (boolean b))
  before-on i (integer j) = refl
  before-on i (text t) = refl
  before-on i (list vs) = refl
  before-on i (pairs ms) = refl
  before-on i (action o n vs) = refl

  many-on : (ks : List Text) (v : Value O) → properties ks (on v) ≡ on (properties ks v)
  many-on [] v = refl
  many-on (k ∷ ks) v = ap (properties ks) (property_keeps_owners f k v) ∙ many-on ks (property k v)

  listed-on : (vs : List (Value O)) (ws : List (Value P)) → ws ≡ map on vs → list (values_of ws) ≡ on (list (values_of vs))
  listed-on vs ws e = ap (λ l. list (values_of l)) e ∙ ap list (values-on vs)

-- Helpers

module _ {O P : Type 0} (eq : O → O → Bool) (eqv : P → P → Bool) (law : DecidesEqual eq) (lawv : DecidesEqual eqv) (f : O → P) (once : (o p : O) → f o ≡ f p → o ≡ p)
    (args : List (Value O)) (names : List (Text × Value O)) where
  abbrev to : Value O → Value P
  to v = with_owners f v

  abbrev args-to : List (Value P)
  args-to = map to args

  abbrev names-to : List (Text × Value P)
  names-to = names_with f names

  same-to : (v w : Value O) → same eqv (to v) (to w) ≡ same eq v w
  same-to v w = same_leaves_owners eq eqv law lawv f v w (λ o p i j. once o p)

  abbrev arg : ℕ → Value O
  arg i = h.argument eq args names i

  abbrev arg-to : ℕ → Value P
  arg-to i = h.argument eqv args-to names-to i

  arg-is : (i : ℕ) → arg-to i ≡ to (arg i)
  arg-is i = place-map to undefined i args

  text-is : (i : ℕ) → text_of (arg-to i) ≡ text_of (arg i)
  text-is i = ap text_of (arg-is i) ∙ text-on f (arg i)

  number-is : (i : ℕ) → h.number_of (arg-to i) ≡ h.number_of (arg i)
  number-is i = ap h.number_of (arg-is i) ∙ number-on f (arg i)

  truthy-is : (i : ℕ) → truthy (arg-to i) ≡ truthy (arg i)
  truthy-is i = ap truthy (arg-is i) ∙ truthy-on f (arg i)

  items-is : (i : ℕ) → h.items_in (arg-to i) ≡ map to (h.items_in (arg i))
  items-is i = ap h.items_in (arg-is i) ∙ items-on f (arg i)

  members-is : (i : ℕ) → h.members_in (arg-to i) ≡ members_with f (h.members_in (arg i))
  members-is i = ap h.members_in (arg-is i) ∙ members-on f (arg i)

  less-is : (i j : ℕ) → h.is_less (arg-to i) (arg-to j) ≡ h.is_less (arg i) (arg j)
  less-is i j = ap₂ h.is_less (arg-is i) (arg-is j) ∙ less-on f (arg i) (arg j)

  has-is : (v : Value O) → h.has_property eqv args-to names-to (to v) ≡ h.has_property eq args names v
  has-is v =
      ap₂ (same eqv) (ap (λ k. property k (to v)) (text-is 1) ∙ property_keeps_owners f (text_of (arg 1)) v) (arg-is 2)
      ∙ same-to (property (text_of (arg 1)) v) (arg 2)

  put-is : (v : Value O) → h.put_member (text_of (arg-to 3)) (arg-to 4) (h.members_in (to v)) ≡ members_with f (h.put_member (text_of (arg 3)) (arg 4) (h.members_in v))
  put-is v =
      ap₂ (λ k x. h.put_member k x (h.members_in (to v))) (text-is 3) (arg-is 4)
      ∙ (ap (h.put_member (text_of (arg 3)) (to (arg 4))) (members-on f v) ∙ put-on f (text_of (arg 3)) (arg 4) (h.members_in v))

  updated-is : (v : Value O) → h.updated eqv args-to names-to (to v) ≡ to (h.updated eq args names v)
  updated-is v =
      ap₂ (λ b x. cond b (h.not_deep (pairs x)) (to v)) (ap₂ (λ a b. a && b) (record-on f v) (has-is v)) (put-is v)
      ∙ (ap (λ x. cond (h.is_record v && h.has_property eq args names v) x (to v)) (deep-on f (pairs (h.put_member (text_of (arg 3)) (arg 4) (h.members_in v))))
      ∙ cond-on f (h.is_record v && h.has_property eq args names v) (h.not_deep (pairs (h.put_member (text_of (arg 3)) (arg 4) (h.members_in v)))) v)

  cond-is : {b c : Bool} {v w x y : Value P} → b ≡ c → v ≡ w → x ≡ y → cond b v x ≡ cond c w y
  cond-is p q r = λ i. cond (p i) (q i) (r i)

  raw : (k : h.Helper) → h.raw_value eqv args-to names-to k ≡ to (h.raw_value eq args names k)
  raw h.if_helper = cond-is (truthy-is 0) (arg-is 1) (arg-is 2) ∙ cond-on f (truthy (arg 0)) (arg 1) (arg 2)
  raw h.unless_helper = cond-is (truthy-is 0) (arg-is 2) (arg-is 1) ∙ cond-on f (truthy (arg 0)) (arg 2) (arg 1)
  raw h.concat_helper = ap text (flat-map to text_of text_of (text-on f) args)
  raw h.array_helper = ap list (values-on f args)
  raw h.hash_helper = ap pairs (puts-on f no_members names)
  raw h.get_helper = ap₂ (λ t v. properties (split 46 t) v) (text-is 1) (arg-is 0) ∙ many-on f (split 46 (text_of (arg 1))) (arg 0)
  raw h.fn_helper = ap₂ h.more_fixed (arg-is 0) (rest-map to args) ∙ fixed-on f (arg 0) (h.rest_of args)
  raw h.add_helper = rw (number-is 0, number-is 1) refl
  raw h.sub_helper = rw (number-is 0, number-is 1) refl
  raw h.mul_helper = rw (number-is 0, number-is 1) refl
  raw h.min_helper = rw (number-is 0, number-is 1) refl
  raw h.max_helper = rw (number-is 0, number-is 1) refl
  raw h.eq_helper = ap boolean (ap₂ (same eqv) (arg-is 0) (arg-is 1) ∙ same-to (arg 0) (arg 1))
  raw h.ne_helper = ap (λ b. boolean (not b)) (ap₂ (same eqv) (arg-is 0) (arg-is 1) ∙ same-to (arg 0) (arg 1))
  raw h.not_helper = ap (λ b. boolean (not b)) (truthy-is 0)
  raw h.and_helper = first-on f false undefined args
  raw h.or_helper = first-on f true undefined args
  raw h.lt_helper = ap boolean (less-is 0 1)
  raw h.lte_helper = ap (λ b. boolean (not b)) (less-is 1 0)
  raw h.gt_helper = ap boolean (less-is 1 0)
  raw h.gte_helper = ap (λ b. boolean (not b)) (less-is 0 1)
  raw h.length_helper = ap h.length_value (arg-is 0) ∙ length-on f (arg 0)
  raw h.append_helper =
      listed-on f (h.items_in (arg 0) ++ arg 1 ∷ []) _ (ap₂ (λ xs v. xs ++ v ∷ []) (items-is 0) (arg-is 1) ∙ sym (map-append to (h.items_in (arg 0)) (arg 1 ∷ [])))
  raw h.remove_at_helper =
      listed-on f (h.at_places (λ p. not (int_eq p (h.number_of (arg 1)))) 0 (h.items_in (arg 0))) _
      (ap₂ (λ n xs. h.at_places (λ p. not (int_eq p n)) 0 xs) (number-is 1) (items-is 0) ∙ places-map to (λ p. not (int_eq p (h.number_of (arg 1)))) 0 (h.items_in (arg 0)))
  raw h.put_helper =
      ap pairs
      (ap₂ (λ k x. h.put_member k x (h.members_in (arg-to 0))) (text-is 1) (arg-is 2)
      ∙ (ap (h.put_member (text_of (arg 1)) (to (arg 2))) (members-is 0) ∙ put-on f (text_of (arg 1)) (arg 2) (h.members_in (arg 0))))
  raw h.slice_helper =
      listed-on f (h.at_places (λ p. not (int_lt p (h.number_of (arg 1))) && h.is_before p (arg 2)) 0 (h.items_in (arg 0))) _
      (ap₂ (λ n xs. h.at_places (λ p. not (int_lt p n) && h.is_before p (arg-to 2)) 0 xs) (number-is 1) (items-is 0)
      ∙ (ap (λ t. h.at_places t 0 (map to (h.items_in (arg 0)))) (λ i p. not (int_lt p (h.number_of (arg 1))) && (ap (h.is_before p) (arg-is 2) ∙ before-on f p (arg 2)) i)
      ∙ places-map to (λ p. not (int_lt p (h.number_of (arg 1))) && h.is_before p (arg 2)) 0 (h.items_in (arg 0))))
  raw h.reverse_helper = listed-on f (reverse (h.items_in (arg 0))) _ (ap reverse (items-is 0) ∙ reverse-map to (h.items_in (arg 0)))
  raw h.includes_helper =
      ap boolean
      (ap (list_any (λ v. same eqv v (arg-to 1))) (items-is 0)
      ∙ any-map to (λ v. same eq v (arg 1)) (λ v. same eqv v (arg-to 1)) (λ v. ap (same eqv (to v)) (arg-is 1) ∙ same-to v (arg 1)) (h.items_in (arg 0)))
  raw h.where_helper =
      listed-on f (filter (h.has_property eq args names) (h.items_in (arg 0))) _
      (ap (filter (h.has_property eqv args-to names-to)) (items-is 0) ∙ filter-map to (h.has_property eq args names) (h.has_property eqv args-to names-to) has-is (h.items_in (arg 0)))
  raw h.remove_where_helper =
      listed-on f (filter (λ v. not (h.has_property eq args names v)) (h.items_in (arg 0))) _
      (ap (filter (λ v. not (h.has_property eqv args-to names-to v))) (items-is 0)
      ∙ filter-map to (λ v. not (h.has_property eq args names v)) (λ v. not (h.has_property eqv args-to names-to v)) (λ v. ap not (has-is v)) (h.items_in (arg 0)))
  raw h.update_where_helper =
      listed-on f (map (h.updated eq args names) (h.items_in (arg 0))) _
      (ap (map (h.updated eqv args-to names-to)) (items-is 0) ∙ maps-map to (h.updated eq args names) (h.updated eqv args-to names-to) updated-is (h.items_in (arg 0)))
  raw h.pluck_helper =
      listed-on f (map (property (text_of (arg 1))) (h.items_in (arg 0))) _
      (ap₂ (λ k xs. map (property k) xs) (text-is 1) (items-is 0)
      ∙ maps-map to (property (text_of (arg 1))) (property (text_of (arg 1))) (property_keeps_owners f (text_of (arg 1))) (h.items_in (arg 0)))
  raw h.join_helper =
      ap text
      (ap₂ h.joined_by (text-is 1) (ap (map text_of) (items-is 0) ∙ told-map to text_of text_of (text-on f) (h.items_in (arg 0))))

  pub helper-is : (k : h.Helper) → h.helper_value eqv args-to names-to k ≡ to (h.helper_value eq args names k)
  helper-is k = ap h.not_deep (raw k) ∙ deep-on f (h.raw_value eq args names k)

pub helpers_keep_owners : {O P : Type 0} → HelpersKeepOwners O P
helpers_keep_owners eq eqv law lawv f once k vs ns = helper-is eq eqv law lawv f once vs ns k
