-- The keys of a list's items, and how often each key stands before its place.
use Rattle.std.proofs.Common.{◌≡◌, ℕ, suc, ◌+◌, ◌<◌, ◌≤◌, List, [], ◌∷◌, ◌++◌, length, get_or, set, take, map, cond, Bool, true, false, Option, Some, add-one, refl, sym, ap, ap₂, subst, ◌∙◌, append_assoc, inl, inr, arith, eq-eqb, true≢false}
use Rattle.std.specs.Prelude.{◌&&◌, ◌||◌, not, nat_eq, unwrap_or, sum_by, if◌then◌else◌, codes}
use Rattle.std.specs.Bool.{Decides}
use Rattle.std.specs.List.{zip, list_any}
use Rattle.std.specs.Str.{bytes_eq}
use Rattle.std.proofs.lemmas.List.{append-nil, map_more, map-append, map-set, get_or-map, take_more, length-take-le, length-map}
use Rattle.std.proofs.lemmas.List.Sums.{sum_by-append}
use Rattle.std.proofs.lemmas.List.Folds.{list_any-append}
use Rattle.std.proofs.lemmas.Bool.Decides.{nat_tests}
use Rattle.std.proofs.lemmas.Bool.Decides.{same_from_decides}
use Rattle.gl_base.specs.Texts.{Text}
use Rattle.gl_value.specs.Value.{Value, undefined, null, boolean, integer, text, list, pairs, action, Values, no_values, value, Members, no_members, member, values_of, same, plain, plain_values, plain_members, properties, split, count_value, key_of}
use Rattle.gl_value.specs.Owners.{with_owners, values_with}
use Rattle.gl_value.specs.View.{view, seen_items}
use Rattle.gl_value.specs.declared.value.Value as code
use Rattle.gl_value.proofs.Owners.{plain_leaves_owners}
use Rattle.gl_value.proofs.Propers.{key_proper}
use Rattle.gl_value.proofs.Sameness.{same-Decides}
use Rattle.gl_ast.specs.Template.{Plain}
use Rattle.gl_ast.specs.ExprCode.{owned, unowned, unowned-owned}
use Rattle.gl_meaning.specs.Path.{Path, no_owners}
use Rattle.gl_meaning.specs.Render.{Entry, occurrences, entries}
use Rattle.gl_meaning.specs.Known.{Among}
use Rattle.gl_meaning.specs.Laws.{NoRepeat}
use Rattle.gl_meaning.proofs.Once.{Later, Distinct, distinct}
use Rattle.gl_each.specs.Key.{Key, same_key, entry_key, entry_keys}
use Rattle.gl_each.specs.SameKeys.{same-numbers}
use Rattle.gl_each.specs.Counted.{item_keys, times, counts_after, counts, key_values, first_keys, put_counts, AreNew, AreProper, KeysAreProper}
use Rattle.gl_each.specs.Hashed.{value_hash}
use Rattle.gl_each.specs.View.{key_view, seen_keys}
use Rattle.gl_each.specs.declared.key.Key as code_key

-- Keys of items

item_keys-push : (k : Text) (i : ℕ) (vs : List (Value ℕ)) (v : Value ℕ) → item_keys k i (vs ++ v ∷ []) ≡ item_keys k i vs ++ key_of k (i + length vs) v ∷ []
item_keys-push k i [] v = let e : i + 0 ≡ i = omega arith in ap (λ n. key_of k n v ∷ []) (sym e)
item_keys-push k i (w ∷ vs) v =
    let e : suc i + length vs ≡ i + suc (length vs) = omega arith in
    ap (λ l. key_of k i w ∷ l) (item_keys-push k (suc i) vs v ∙ ap (λ n. item_keys k (suc i) vs ++ key_of k n v ∷ []) e)

-- one more key
pub first_more : (k : Text) (items : List code.Value) (i : ℕ) (x : code.Value) (before after : List code_key.Key) (v : code.Value)
    → i < length items → x ≡ get_or items i x → view v ≡ key_of k i (view x) → seen_keys before ≡ first_keys (item_keys k 0 (seen_items (take i items)))
    → after ≡ before ++ record { value = v; occurrence = 0 } ∷ [] → seen_keys after ≡ first_keys (item_keys k 0 (seen_items (take (i + 1) items)))
first_more k items i x before after v h is made was now =
    let n : 0 + length (seen_items (take i items)) ≡ i = omega (arith, length-map (take i items) view, length-take-le i items (omega arith)) in
    let front : List (Value ℕ) = item_keys k 0 (seen_items (take i items)) in
    ap seen_keys now ∙ map-append key_view before (record { value = v; occurrence = 0 } ∷ []) ∙ ap₂ (λ l w. l ++ (w, 0) ∷ []) was made
    ∙ ap₂ (λ m y. first_keys front ++ (key_of k m (view y), 0) ∷ []) (sym n) is
    ∙ sym (ap first_keys (ap (item_keys k 0) (map_more view items i x h) ∙ item_keys-push k 0 (seen_items (take i items)) (view (get_or items i x))) ∙ map-append (λ w. (w, 0)) front _)

-- one more value
values_more : (keys : List code_key.Key) (i : ℕ) (x : code_key.Key) → i < length keys → x ≡ get_or keys i x
    → key_values (seen_keys (take (i + 1) keys)) ≡ key_values (seen_keys (take i keys)) ++ view x.value ∷ []
values_more keys i x h is =
    ap key_values (map_more key_view keys i x h) ∙ map-append (λ (q : Key). q.0) (seen_keys (take i keys)) (key_view (get_or keys i x) ∷ [])
    ∙ ap (λ (y : code_key.Key). key_values (seen_keys (take i keys)) ++ view y.value ∷ []) (sym is)

-- one more hash
pub hashes_more : (before after : List code_key.Key) (hashes more : List ℕ) (v : code.Value) (n : ℕ) → after ≡ before ++ record { value = v; occurrence = 0 } ∷ []
    → hashes ≡ map value_hash (key_values (seen_keys before)) → n ≡ value_hash (view v) → more ≡ hashes ++ n ∷ [] → more ≡ map value_hash (key_values (seen_keys after))
hashes_more before after hashes more v n now was hashed put =
    put ∙ ap₂ (λ l m. l ++ m ∷ []) was hashed
    ∙ sym (ap (λ l. map value_hash (key_values (seen_keys l))) now ∙ ap (λ l. map value_hash (key_values l)) (map-append key_view before (record { value = v; occurrence = 0 } ∷ []))
    ∙ ap (map value_hash) (map-append (λ (q : Key). q.0) (seen_keys before) ((view v, 0) ∷ [])) ∙ map-append value_hash (key_values (seen_keys before)) (view v ∷ []))

-- Counts

times-push : (v : Value ℕ) (xs : List (Value ℕ)) (w : Value ℕ) → times v (xs ++ w ∷ []) ≡ times v xs + cond (same nat_eq v w) 1 0
times-push v xs w = sum_by-append (λ x. cond (same nat_eq v x) 1 0) xs (w ∷ []) ∙ ap (λ n. sum_by (λ x. cond (same nat_eq v x) 1 0) xs + n) (one (cond (same nat_eq v w) 1 0)) where
  one : (n : ℕ) → 0 + n ≡ n
  one n = omega arith

counts_after-push : (b ks : List (Value ℕ)) (k : Value ℕ) → counts_after b (ks ++ k ∷ []) ≡ counts_after b ks ++ times k (b ++ ks) ∷ []
counts_after-push b [] k = ap (λ l. times k l ∷ []) (sym (append-nil b))
counts_after-push b (l ∷ ks) k = ap (λ m. times l b ∷ m) (counts_after-push (b ++ l ∷ []) ks k ∙ ap (λ m. counts_after (b ++ l ∷ []) ks ++ times k m ∷ []) (append_assoc b (l ∷ []) ks))

-- one more count
pub counts_more : (keys : List code_key.Key) (i : ℕ) (x : code_key.Key) (before after : List ℕ) (n : ℕ) → i < length keys → x ≡ get_or keys i x
    → n ≡ times (view x.value) (key_values (seen_keys (take i keys))) → before ≡ counts (key_values (seen_keys (take i keys))) → after ≡ before ++ n ∷ []
    → after ≡ counts (key_values (seen_keys (take (i + 1) keys)))
counts_more keys i x before after n h is counted was now =
    now ∙ ap₂ (λ l m. l ++ m ∷ []) was counted ∙ sym (ap counts (values_more keys i x h is) ∙ counts_after-push [] (key_values (seen_keys (take i keys))) (view x.value))

held_next : (v w : Value ℕ) (xs : List (Value ℕ)) (n : ℕ) (old new : Option ℕ) → new ≡ cond (same nat_eq w v && true) (Some (n + 1)) old
    → unwrap_or old 0 ≡ times v xs → n ≡ times w xs → unwrap_or new 0 ≡ times v (xs ++ w ∷ [])
held_next v w xs n old new now was counted = by (same nat_eq w v) refl where
  by : (b : Bool) → same nat_eq w v ≡ b → unwrap_or new 0 ≡ times v (xs ++ w ∷ [])
  by true t =
      let e : w ≡ v = (same-numbers w v).0 t in
      let one : same nat_eq v w ≡ true = (same-numbers v w).1 (sym e) in
      ap (λ o. unwrap_or o 0) (now ∙ ap (λ b. cond (b && true) (Some (n + 1)) old) t) ∙ ap (λ m. m + 1) (counted ∙ ap (λ z. times z xs) e)
      ∙ sym (times-push v xs w ∙ ap (λ b. times v xs + cond b 1 0) one)
  by false t =
      let none : same nat_eq v w ≡ false = same_from_decides (same nat_eq v w) (same nat_eq w v) (same-numbers v w) ((λ h. sym ((same-numbers w v).0 h)), λ h. (same-numbers w v).1 (sym h)) ∙ t in
      let e : times v xs + 0 ≡ times v xs = omega arith in
      ap (λ o. unwrap_or o 0) (now ∙ ap (λ b. cond (b && true) (Some (n + 1)) old) t) ∙ was
      ∙ sym (times-push v xs w ∙ ap (λ b. times v xs + cond b 1 0) none ∙ e)

-- how often each value was seen
pub held_more : (keys : List code_key.Key) (i : ℕ) (x : code_key.Key) (n : ℕ) (old new : Key → Option ℕ) → i < length keys → x ≡ get_or keys i x
    → ((q : Key) → new q ≡ cond (same_key (view x.value, 0) q) (Some (n + 1)) (old q)) → ((v : Value ℕ) → unwrap_or (old (v, 0)) 0 ≡ times v (key_values (seen_keys (take i keys))))
    → n ≡ times (view x.value) (key_values (seen_keys (take i keys))) → (v : Value ℕ) → unwrap_or (new (v, 0)) 0 ≡ times v (key_values (seen_keys (take (i + 1) keys)))
held_more keys i x n old new h is now was counted v =
    held_next v (view x.value) (key_values (seen_keys (take i keys))) n (old (v, 0)) (new (v, 0)) (now (v, 0)) (was v) counted ∙ ap (times v) (sym (values_more keys i x h is))

-- Numbers that differ

AreNew-push : (before ns : List ℕ) (n : ℕ) → AreNew before ns → list_any (nat_eq n) (before ++ ns) ≡ false → AreNew before (ns ++ n ∷ [])
AreNew-push before [] n h new = (subst (λ l. list_any (nat_eq n) l ≡ false) (append-nil before) new, tt)
AreNew-push before (m ∷ ns) n h new = (h.0, AreNew-push (before ++ m ∷ []) ns n h.1 (subst (λ l. list_any (nat_eq n) l ≡ false) (sym (append_assoc before (m ∷ []) ns)) new))

take_next : (ns : List ℕ) (i n : ℕ) → i < length ns → n ≡ get_or ns i n → take (i + 1) ns ≡ take i ns ++ n ∷ []
take_next ns i n h is = take_more ns i n h ∙ ap (λ m. take i ns ++ m ∷ []) (sym is)

-- what was put into a set as new wasn't in it
pub was_new : (b c : Bool) → b ≡ true → b ≡ not c → c ≡ false
was_new b true e f = absurd (true≢false (sym e ∙ f))
was_new b false e f = refl

-- one more number
pub new_more : (ns : List ℕ) (i n : ℕ) → i < length ns → n ≡ get_or ns i n → AreNew [] (take i ns) → list_any (nat_eq n) (take i ns) ≡ false → AreNew [] (take (i + 1) ns)
new_more ns i n h is was new = subst (AreNew []) (sym (take_next ns i n h is)) (AreNew-push [] (take i ns) n was new)

pub seen_more : (ns : List ℕ) (i n : ℕ) (old new : ℕ → Bool) → i < length ns → n ≡ get_or ns i n → ((m : ℕ) → new m ≡ cond (nat_eq n m) true (old m))
    → ((m : ℕ) → old m ≡ list_any (nat_eq m) (take i ns)) → (m : ℕ) → new m ≡ list_any (nat_eq m) (take (i + 1) ns)
seen_more ns i n old new h is now was m =
    now m ∙ by (old m) ∙ ap (λ b. b || (nat_eq m n || false)) (was m)
    ∙ sym (ap (list_any (nat_eq m)) (take_next ns i n h is) ∙ list_any-append (nat_eq m) (take i ns) (n ∷ []))
  where
    by : (b : Bool) → cond (nat_eq n m) true b ≡ (b || (nat_eq m n || false))
    by true = grind (arith, nat_tests)
    by false = grind (arith, nat_tests)

times-first : (v w : Value ℕ) (xs : List (Value ℕ)) → times v (w ∷ xs) ≡ cond (same nat_eq v w) 1 0 + times v xs
times-first v w xs = sum_by-append (λ x. cond (same nat_eq v x) 1 0) (w ∷ []) xs ∙ ap (λ n. n + times v xs) (one (cond (same nat_eq v w) 1 0)) where
  one : (n : ℕ) → 0 + n ≡ n
  one n = omega arith

-- a value whose hash is none of theirs isn't among them
times-none : (v : Value ℕ) (xs : List (Value ℕ)) → list_any (nat_eq (value_hash v)) (map value_hash xs) ≡ false → times v xs ≡ 0
times-none v [] h = refl
times-none v (w ∷ xs) h = times-first v w xs ∙ by (same nat_eq v w) refl (times-none v xs) where
  by : (b : Bool) → same nat_eq v w ≡ b → (list_any (nat_eq (value_hash v)) (map value_hash xs) ≡ false → times v xs ≡ 0) → cond b 1 0 + times v xs ≡ 0
  by true t more =
      let e : nat_eq (value_hash v) (value_hash w) ≡ true = eq-eqb _ _ (ap value_hash ((same-numbers v w).0 t)) in
      absurd (true≢false (sym (ap (λ b. b || list_any (nat_eq (value_hash v)) (map value_hash xs)) e) ∙ h))
  by false t more = (let e : times v xs ≡ 0 = more (rest (nat_eq (value_hash v) (value_hash w)) _ h) in let z : 0 + times v xs ≡ 0 = omega arith in z) where
    rest : (a b : Bool) → (a || b) ≡ false → b ≡ false
    rest true b e = absurd (true≢false e)
    rest false b e = e

-- where all hashes differ, no equal value stands before any
counts-none : (before vs : List (Value ℕ)) → AreNew (map value_hash before) (map value_hash vs) → counts_after before vs ≡ map (λ _. 0) vs
counts-none before [] h = refl
counts-none before (v ∷ vs) h =
    ap₂ (λ n l. n ∷ l) (times-none v before h.0) (counts-none (before ++ v ∷ []) vs (subst (λ l. AreNew l (map value_hash vs)) (sym (map-append value_hash before (v ∷ []))) h.1))

zip-none : (vs : List (Value ℕ)) → first_keys vs ≡ zip vs (map (λ _. 0) vs)
zip-none [] = refl
zip-none (v ∷ vs) = ap (λ l. (v, 0) ∷ l) (zip-none vs)

-- keys whose hashes differ have the occurrence 0
pub none_before : (vs : List (Value ℕ)) → AreNew [] (map value_hash vs) → first_keys vs ≡ zip vs (counts vs)
none_before vs h = zip-none vs ∙ ap (zip vs) (sym (counts-none [] vs h))

-- the occurrences put to their keys
put-zip : (before : List (Value ℕ)) (ks : List Key) → put_counts ks (counts_after before (key_values ks)) ≡ zip (key_values ks) (counts_after before (key_values ks))
put-zip before [] = refl
put-zip before (k ∷ ks) = ap (λ l. (k.0, times k.0 before) ∷ l) (put-zip (before ++ k.0 ∷ []) ks)

pub put_none : (ks : List Key) → put_counts ks [] ≡ ks
put_none [] = refl
put_none (k ∷ ks) = refl

put-push : (ks : List Key) (ms : List ℕ) (n : ℕ) (d : Key) → put_counts ks (ms ++ n ∷ []) ≡ set (put_counts ks ms) (length ms) ((get_or (put_counts ks ms) (length ms) d).0, n)
put-push [] ms n d = refl
put-push (k ∷ ks) [] n d = ap (λ l. (k.0, n) ∷ l) (put_none ks)
put-push (k ∷ ks) (m ∷ ms) n d = ap (λ l. (k.0, m) ∷ l) (put-push ks ms n d)

put-past : (ks : List Key) (ms : List ℕ) (n : ℕ) → length (put_counts ks ms) ≤ length ms → put_counts ks (ms ++ n ∷ []) ≡ put_counts ks ms
put-past [] ms n h = refl
put-past (k ∷ ks) [] n h = absurd (omega arith)
put-past (k ∷ ks) (m ∷ ms) n h = let u : length (put_counts ks ms) ≤ length ms = omega arith in ap (λ l. (k.0, m) ∷ l) (put-past ks ms n u)

-- one more occurrence is put
pub put_step : (ks : List Key) (ns : List ℕ) (i n : ℕ) (before after : List code_key.Key) (x : code_key.Key) → i < length ns → n ≡ get_or ns i n → i < length before → x ≡ get_or before i x
    → seen_keys before ≡ put_counts ks (take i ns) → after ≡ set before i (record { value = x.value; occurrence = n }) → seen_keys after ≡ put_counts ks (take (i + 1) ns)
put_step ks ns i n before after x h is within at was now =
    let count : length (take i ns) ≡ i = length-take-le i ns (omega arith) in
    ap seen_keys now ∙ map-set key_view before i (record { value = x.value; occurrence = n })
    ∙ ap₂ (λ l (q : Key). set l i (q.0, n)) was (ap key_view at ∙ sym (get_or-map key_view before i x (key_view x) within) ∙ ap (λ l. get_or l i (key_view x)) was)
    ∙ ap (λ j. set (put_counts ks (take i ns)) j ((get_or (put_counts ks (take i ns)) j (key_view x)).0, n)) (sym count)
    ∙ sym (ap (put_counts ks) (take_next ns i n h is) ∙ put-push ks (take i ns) n (key_view x))

-- there is no key for it
pub put_past : (ks : List Key) (ns : List ℕ) (i n : ℕ) (before after : List code_key.Key) → i < length ns → n ≡ get_or ns i n → length before ≤ i
    → seen_keys before ≡ put_counts ks (take i ns) → after ≡ before → seen_keys after ≡ put_counts ks (take (i + 1) ns)
put_past ks ns i n before after h is beyond was now =
    let count : length (take i ns) ≡ i = length-take-le i ns (omega arith) in
    let same : length (put_counts ks (take i ns)) ≡ length before = sym (ap length was) ∙ length-map before key_view in
    ap seen_keys now ∙ was ∙ sym (ap (put_counts ks) (take_next ns i n h is) ∙ put-past ks (take i ns) n (omega arith))

pub put_all : (ks : List Key) (ns : List ℕ) → ns ≡ counts (key_values ks) → put_counts ks ns ≡ zip (key_values ks) (counts (key_values ks))
put_all ks ns is = ap (put_counts ks) is ∙ put-zip [] ks

-- keys that were just made
key_values-first : (vs : List (Value ℕ)) → key_values (first_keys vs) ≡ vs
key_values-first [] = refl
key_values-first (v ∷ vs) = ap (λ l. v ∷ l) (key_values-first vs)

pub values_made : (ks : List Key) (vs : List (Value ℕ)) → ks ≡ first_keys vs → key_values ks ≡ vs
values_made ks vs e = ap key_values e ∙ key_values-first vs

pub are_first : (ks : List Key) (vs : List (Value ℕ)) → ks ≡ first_keys vs → ks ≡ first_keys (key_values ks)
are_first ks vs e = e ∙ ap first_keys (sym (values_made ks vs e))

-- Keys and the entries of the definition

module _ {O : Type 0} (P Q : Type 0) where
  mutual
    plain-plain : (v : Value O) → plain {P = Q} (plain {P = P} v) ≡ plain {P = Q} v
    plain-plain undefined = refl
    plain-plain null = refl
    plain-plain (boolean b) = refl
    plain-plain (integer i) = refl
    plain-plain (text t) = refl
    plain-plain (list vs) = ap list (plain_values-plain vs)
    plain-plain (pairs ms) = ap pairs (plain_members-plain ms)
    plain-plain (action o n vs) = refl

    plain_values-plain : (vs : Values O) → plain_values {P = Q} (plain_values {P = P} vs) ≡ plain_values {P = Q} vs
    plain_values-plain no_values = refl
    plain_values-plain (value v vs) = ap₂ value (plain-plain v) (plain_values-plain vs)

    plain_members-plain : (ms : Members O) → plain_members {P = Q} (plain_members {P = P} ms) ≡ plain_members {P = Q} ms
    plain_members-plain no_members = refl
    plain_members-plain (member k v ms) = ap₂ (member k) (plain-plain v) (plain_members-plain ms)

chosen_owned : (b c : Bool) (n : ℕ) (v w : Value ℕ) → owned (if b then count_value n else (if c then plain v else plain w)) ≡ (if b then count_value n else (if c then plain v else plain w))
chosen_owned true c n v w = refl
chosen_owned false true n v w = plain-plain ⊥ ℕ v
chosen_owned false false n v w = plain-plain ⊥ ℕ w

-- whoever owns the actions of an item, its key is the same
key-owned : (paths : ℕ → Path) (k : Text) (i : ℕ) (v : Value ℕ) → owned (key_of k i (with_owners paths v)) ≡ key_of k i v
key-owned paths k i v =
    ap owned ((plain_leaves_owners {P = Path} {Q = ⊥} paths v).1 k i) ∙ chosen_owned (bytes_eq k (codes "@index")) (bytes_eq k (codes "@identity")) i v (properties (split 46 k) v)

no_owner : (o p : ⊥) → Decides (no_owners o p) (o ≡ p)
no_owner o p = absurd o

same-owned : (k l : Plain) → same no_owners k l ≡ same nat_eq (owned k) (owned l)
same-owned k l =
    same_from_decides (same no_owners k l) (same nat_eq (owned k) (owned l)) (same-Decides no_owners no_owner k l)
    ((λ t. sym (unowned-owned k) ∙ ap unowned ((same-numbers (owned k) (owned l)).0 t) ∙ unowned-owned l), λ e. (same-numbers (owned k) (owned l)).1 (ap owned e))

occurrences-times : (l k : Plain) (ks : List Plain) (b : List (Value ℕ)) → occurrences l ks ≡ times (owned l) b → occurrences l (k ∷ ks) ≡ times (owned l) (b ++ owned k ∷ [])
occurrences-times l k ks b h = by (same no_owners l k) refl where
  by : (t : Bool) → same no_owners l k ≡ t → occurrences l (k ∷ ks) ≡ times (owned l) (b ++ owned k ∷ [])
  by true t =
      ap (λ c. if c then suc (occurrences l ks) else occurrences l ks) t ∙ ap suc h ∙ sym (add-one (times (owned l) b))
      ∙ sym (times-push (owned l) b (owned k) ∙ ap (λ c. times (owned l) b + cond c 1 0) (sym (same-owned l k) ∙ t))
  by false t =
      let e : times (owned l) b + 0 ≡ times (owned l) b = omega arith in
      ap (λ c. if c then suc (occurrences l ks) else occurrences l ks) t ∙ h
      ∙ sym (times-push (owned l) b (owned k) ∙ ap (λ c. times (owned l) b + cond c 1 0) (sym (same-owned l k) ∙ t) ∙ e)

entries-keys : (paths : ℕ → Path) (k : Text) (i : ℕ) (ks : List Plain) (b : List (Value ℕ)) → ((l : Plain) → occurrences l ks ≡ times (owned l) b)
    → (vs : List (Value ℕ)) → entry_keys (entries k i ks (values_with paths (values_of vs))) ≡ zip (item_keys k i vs) (counts_after b (item_keys k i vs))
entries-keys paths k i ks b h [] = refl
entries-keys paths k i ks b h (v ∷ vs) =
    let key : Plain = key_of k i (with_owners paths v) in
    let is : owned key ≡ key_of k i v = key-owned paths k i v in
    ap₂ (λ x xs. x ∷ xs) (ap₂ (λ w n. (w, n)) is (h key ∙ ap (λ w. times w b) is))
    (entries-keys paths k (suc i) (key ∷ ks) (b ++ key_of k i v ∷ []) (λ l. occurrences-times l key ks b (h l) ∙ ap (λ w. times (owned l) (b ++ w ∷ [])) is) vs)

-- the keys of the items are those of the definition's entries
pub keyed : (paths : ℕ → Path) (k : Text) (items vs : List (Value ℕ)) (ks : List Key) → vs ≡ item_keys k 0 items → ks ≡ zip vs (counts vs)
    → ks ≡ entry_keys (entries k 0 [] (values_with paths (values_of items)))
keyed paths k items vs ks made paired = paired ∙ ap (λ l. zip l (counts l)) made ∙ sym (entries-keys paths k 0 [] [] (λ l. refl) items)

-- Keys are distinct

later_apart : (x : Entry) (xs : List Entry) → Later x.key (suc x.occurrence) xs → Among (entry_key x) (entry_keys xs) → ⊥
later_apart x [] h m = m
later_apart x (y ∷ xs) h (inl e) =
    let same : x.key ≡ y.key = sym (unowned-owned x.key) ∙ ap (λ (p : Key). unowned p.0) e ∙ unowned-owned y.key in
    let n : x.occurrence ≡ y.occurrence = ap (λ (p : Key). p.1) e in
    let more : suc x.occurrence ≤ y.occurrence = h.0 (sym same) in
    absurd (omega arith)
later_apart x (y ∷ xs) h (inr m) = later_apart x xs h.1 m

pub entries_apart : (es : List Entry) → Distinct es → NoRepeat (entry_keys es)
entries_apart [] h = tt
entries_apart (x ∷ xs) h = (later_apart x xs h.0, entries_apart xs h.1)

pub keys_apart : (k : Text) (vs : Values Path) → NoRepeat (entry_keys (entries k 0 [] vs))
keys_apart k vs = entries_apart (entries k 0 [] vs) (distinct k 0 [] vs)

-- Keys are proper

item_keys-proper : (k : Text) (i : ℕ) (vs : List (Value ℕ)) → AreProper vs → AreProper (item_keys k i vs)
item_keys-proper k i [] h = tt
item_keys-proper k i (v ∷ vs) h = (key_proper ℕ k i v h.0, item_keys-proper k (suc i) vs h.1)

zip-proper : (vs : List (Value ℕ)) (ns : List ℕ) → AreProper vs → KeysAreProper (zip vs ns)
zip-proper [] ns h = tt
zip-proper (v ∷ vs) [] h = tt
zip-proper (v ∷ vs) (n ∷ ns) h = (h.0, zip-proper vs ns h.1)

pub keyed-proper : (k : Text) (items vs : List (Value ℕ)) (ks : List Key) → vs ≡ item_keys k 0 items → ks ≡ zip vs (counts vs) → AreProper items → KeysAreProper ks
keyed-proper k items vs ks made paired h =
    subst KeysAreProper (sym (paired ∙ ap (λ l. zip l (counts vs)) made)) (zip-proper (item_keys k 0 items) (counts vs) (item_keys-proper k 0 items h))
