-- What is kept of modifiers, after each call.
use Rattle.std.proofs.Common.{◌≡◌, ◌≢◌, ℕ, ◌<◌, ◌≤◌, ◌==◌, Bool, true, false, List, [], ◌∷◌, ◌++◌, Option, Some, None, option_map, refl, sym, ap, subst, ◌∙◌, inl, inr, arith, is_some, IsSome}
use Rattle.std.specs.Prelude.{if◌then◌else◌, slice_index_or, ◌⊎◌}
use Rattle.gl_arena.specs.Id.{Id, same_id}
use Rattle.gl_arena.specs.Arena.{Arena, named, stamped, by_stamp, with_value, IsStamped, IsOwn, Sets, Gives, Ends}
use Rattle.gl_arena.proofs.Ids.{same_id-refl, same_id-other, id_cases}
use Rattle.gl_arena.proofs.Values.{Writes, with_value-writes}
use Rattle.gl_arena.proofs.Stamps.{gives-stamped, ends-stamped, fewer-stamped, writes-stamped, gives-sets, writes-sets, by_stamp-same, by_stamp-live, by_stamp-id, own_live, empty-stamped}
use Rattle.gl_mods.specs.Mods.{Installed, Args, NamedArgs, ids_at, living, with_id, without_node, off_node, with_values, Installs, IsSame, Refreshes, Drops, times, count_at, IsSound}
use Rattle.gl_mods.specs.Kept.{seen, AreGiven, IsKept, IsMaybeMore, ended}
use Rattle.gl_mods.proofs.Ids.{hit-is, hit-other, none_some, given_later, given_more, living-given, living-same, living-more, living-ended, living_lives, living-off, times-with_id, times-with_other, times-without, times-without_other}

-- None at first.

pub begins : (a : Arena Installed) → a.slots ≡ [] → IsKept a [] [] []
begins a empty =
    let none : (i : Id) → named a i ≡ None = λ i. ap (λ s. stamped i.1 (slot s i.0)) empty in
    record {
      stamps = empty-stamped a none;
      on = λ n i. sym (ap (count_at n) (none i));
      installs_given = tt;
      updates_given = tt;
    }
  where
    slot : List (Option (ℕ × Installed)) → ℕ → Option (ℕ × Installed)
    slot s k = slice_index_or s k None

-- What is kept is sound.

pub sound : (a : Arena Installed) (nodes : List (Id × List Id)) (ins ups : List Id) → IsKept a nodes ins ups → IsSound (seen a nodes ins ups)
sound a nodes ins ups k = record {
  stamps = k.stamps;
  on = k.on;
  own = λ n i lt. owned i (on_lives n i lt);
  installs = λ i lt. let live = living_lives a ins i lt in (live, owned i live);
  updates = λ i lt. let live = living_lives a ups i lt in (live, owned i live);
}
  where
    owned : (i : Id) → IsSome (named a i) → IsOwn a i
    owned i live = by_case (named a i) refl live
      where
        by_case : (o : Option Installed) → named a i ≡ o → IsSome o → IsOwn a i
        by_case None e h = absurd (let no : false ≡ true = h in cc)
        by_case (Some m) e h = own_live a i m k.stamps e

    on_lives : (n i : Id) → 0 < times i (ids_at n nodes) → IsSome (named a i)
    on_lives n i lt = by_case (named a i) refl
      where
        by_case : (o : Option Installed) → named a i ≡ o → IsSome (named a i)
        by_case None e = let count = k.on n i in let none = ap (count_at n) e in absurd (omega (arith, lt, count, none))
        by_case (Some m) e = ap is_some e

-- One is installed.
module _ (a b : Arena Installed) (nodes : List (Id × List Id)) (ins ups : List Id) (id : Id) (m : Installed) (k : IsKept a nodes ins ups) (g : Gives a b id m) where
  before : (i : Id) → i.1 < a.made → named b i ≡ named a i
  before i lt = g.others i (λ e. let s = g.stamp in let t = ap (λ j. j.1) e in absurd (omega (arith, lt, s, t)))

  later : a.made ≤ b.made
  later = let c = g.count in omega (arith, c)

  new_below : id.1 < b.made
  new_below = let c = g.count in let s = g.stamp in omega (arith, c, s)

  module _ (now : List (Id × List Id)) (ins' : List Id) (on : (n : Id) → ids_at n now ≡ with_id m.node id (λ j. ids_at j nodes) n) (more : ins' ≡ ins ++ id ∷ []) where
    counts : (n i : Id) → times i (ids_at n now) ≡ count_at n (named b i)
    counts n i =
        let was = k.on n i in
        ap (times i) (on n) ∙ elim (id_cases i id) [
          | inl q ↦
              let vacant : times i (ids_at n nodes) ≡ 0 = was ∙ ap (count_at n) (ap (named a) q ∙ g.vacant) in
              let one = hit-is i id q in
              elim (id_cases n m.node) [
                | inl e ↦
                    let h = hit-is m.node n (sym e) in
                    let t = times-with_id i m.node id n (λ j. ids_at j nodes) e in
                    omega (arith, t, vacant, one, h) ∙ sym (ap (count_at n) (ap (named b) q ∙ g.given))
                | inr ne ↦
                    let h = hit-other m.node n (λ e. ne (sym e)) in
                    let t = times-with_other i m.node id n (λ j. ids_at j nodes) ne in
                    omega (arith, t, vacant, h) ∙ sym (ap (count_at n) (ap (named b) q ∙ g.given))
              ]
          | inr off ↦
              let same = ap (count_at n) (g.others i off) in
              let none = hit-other i id off in
              elim (id_cases n m.node) [
                | inl e ↦ let t = times-with_id i m.node id n (λ j. ids_at j nodes) e in omega (arith, t, was, none, same)
                | inr ne ↦ let t = times-with_other i m.node id n (λ j. ids_at j nodes) ne in omega (arith, t, was, same)
              ]
        ]

    pub installed_kept : IsKept b now ins' ups
    installed_kept = record {
      stamps = gives-stamped a b id m k.stamps g;
      on = counts;
      installs_given = subst (AreGiven b.made) (sym more) (given_more b.made ins id (given_later a.made b.made ins later k.installs_given) new_below);
      updates_given = given_later a.made b.made ups later k.updates_given;
    }

    pub installed : Installs (seen a nodes ins ups) (seen b now ins' ups) id m
    installed =
        let s = gives-sets a b id m k.stamps g in
        record {
          gives = g;
          stamps = s.0;
          own = s.1;
          on = on;
          installs =
              ap (living b) more
              ∙ (living-more b ins id (ap is_some g.given) ∙ ap (λ t. t ++ id ∷ []) (living-given a b a.made ins k.installs_given before));
          updates = living-given a b a.made ups k.updates_given before;
        }

  -- and given back
  module _ (d : Arena Installed) (now : List (Id × List Id)) (ins' : List Id) (ends : Ends b d id) (on : (n : Id) → ids_at n now ≡ ids_at n nodes) (maybe : IsMaybeMore id ins ins') where
    back : (i : Id) → named d i ≡ named a i
    back i = elim (id_cases i id) [
      | inl q ↦ ap (named d) q ∙ (ends.ended ∙ (sym g.vacant ∙ ap (named a) (sym q)))
      | inr ne ↦ ends.others i ne ∙ g.others i ne
    ]

    up : a.made ≤ d.made
    up = let c = ends.count in let le = later in omega (arith, c, le)

    is_stamped : IsStamped d
    is_stamped = ends-stamped b d id (gives-stamped a b id m k.stamps g) ends

    pub undone_kept : IsKept d now ins' ups
    undone_kept = record {
      stamps = is_stamped;
      on = λ n i. ap (times i) (on n) ∙ (k.on n i ∙ ap (count_at n) (sym (back i)));
      installs_given = elim maybe [
        | inl e ↦ subst (AreGiven d.made) (sym e) (given_later a.made d.made ins up k.installs_given)
        | inr e ↦
            let lt : id.1 < d.made = let c = ends.count in let n = new_below in omega (arith, c, n) in
            subst (AreGiven d.made) (sym e) (given_more d.made ins id (given_later a.made d.made ins up k.installs_given) lt)
      ];
      updates_given = given_later a.made d.made ups up k.updates_given;
    }

    pub undone : IsSame (seen a nodes ins ups) (seen d now ins' ups)
    undone = record {
      names = back;
      stamps = λ s. by_stamp-same a d s k.stamps is_stamped (λ i e. back i);
      own = λ i own. record {
        below = let lt = own.below in let le = up in omega (arith, lt, le);
        same = back i ∙ (own.same ∙ sym (by_stamp-same a d i.1 k.stamps is_stamped (λ j e. back j)));
      };
      on = on;
      installs =
          elim maybe [ inl e ↦ ap (living d) e | inr e ↦ ap (living d) e ∙ living-ended d ins id ends.ended ]
          ∙ living-same a d ins (λ i. ap is_some (back i));
      updates = living-same a d ups (λ i. ap is_some (back i));
    }

-- One has other values.
module _ (a b : Arena Installed) (nodes : List (Id × List Id)) (ins ups : List Id) (id : Id) (m : Installed) (args : Args) (values : NamedArgs) (k : IsKept a nodes ins ups) (live : named a id ≡ Some m) (put : b ≡ with_value a id (with_values args values m)) where
  writes : Writes a b id (with_values args values m)
  writes = subst (λ t. Writes a t id (with_values args values m)) (sym put) (with_value-writes a id (with_values args values m) (ap is_some live))

  same_count : (n i : Id) → count_at n (named b i) ≡ count_at n (named a i)
  same_count n i = elim (id_cases i id) [
    | inl q ↦ ap (count_at n) (ap (named b) q ∙ writes.given) ∙ sym (ap (count_at n) (ap (named a) q ∙ live))
    | inr ne ↦ ap (count_at n) (writes.others i ne)
  ]

  same_live : (i : Id) → is_some (named b i) ≡ is_some (named a i)
  same_live i = elim (id_cases i id) [
    | inl q ↦ ap is_some (ap (named b) q ∙ writes.given) ∙ sym (ap is_some (ap (named a) q ∙ live))
    | inr ne ↦ ap is_some (writes.others i ne)
  ]

  pub refreshed_kept : (ups' : List Id) → ups' ≡ ups ++ id ∷ [] → IsKept b nodes ins ups'
  refreshed_kept ups' more = record {
    stamps = writes-stamped a b id (with_values args values m) k.stamps (ap is_some live) writes;
    on = λ n i. k.on n i ∙ sym (same_count n i);
    installs_given = given_later a.made b.made ins (let c = writes.count in omega (arith, c)) k.installs_given;
    updates_given = subst (AreGiven b.made) (sym more) (given_more b.made ups id (given_later a.made b.made ups (let c = writes.count in omega (arith, c)) k.updates_given) (let c = writes.count in let lt = k.stamps.below id (ap is_some live) in omega (arith, c, lt)));
  }

  pub refreshed : (ups' : List Id) → ups' ≡ ups ++ id ∷ [] → Refreshes (seen a nodes ins ups) (seen b nodes ins ups') id args values
  refreshed ups' more = record {
    here = writes.given ∙ sym (ap (option_map (with_values args values)) live);
    others = λ i off. writes.others i (λ e. let yes : same_id i id ≡ true = ap (λ j. same_id j id) e ∙ same_id-refl id in let no : true ≡ false = sym yes ∙ off in cc);
    stamps =
        subst (Sets a b id.1) (sym (ap (option_map (with_values args values)) (by_stamp-live a id m k.stamps live)))
        (writes-sets a b id (with_values args values m) k.stamps (ap is_some live) writes);
    made = writes.count;
    nodes = refl;
    installs = living-same a b ins same_live;
    updates = ap (living b) more ∙ (living-more b ups id (ap is_some writes.given) ∙ ap (λ t. t ++ id ∷ []) (living-same a b ups same_live));
  }

-- Those of a node are gone.
module _ (a b : Arena Installed) (nodes now : List (Id × List Id)) (ins ups : List Id) (node : Id) (k : IsKept a nodes ins ups) (gone : (i : Id) → named b i ≡ ended (λ j. times j (ids_at node nodes)) (named a) i) (made : b.made ≡ a.made) (on : (n : Id) → ids_at n now ≡ without_node node (λ j. ids_at j nodes) n) where
  names : (i : Id) → named b i ≡ off_node node (named a i)
  unfolding ended
  names i = gone i ∙ by_case (named a i) refl
    where
      by_case : (o : Option Installed) → named a i ≡ o → (if times i (ids_at node nodes) == 0 then named a i else None) ≡ off_node node (named a i)
      by_case None e =
          let zero : (times i (ids_at node nodes) == 0) ≡ true = ap (λ n. n == 0) (k.on node i ∙ ap (count_at node) e) in
          ap (λ b. if b then named a i else None) zero ∙ (e ∙ sym (ap (off_node node) e))
      by_case (Some m) e = elim (id_cases m.node node) [
        | inl q ↦
            let one : (times i (ids_at node nodes) == 0) ≡ false = ap (λ n. n == 0) (k.on node i ∙ (ap (count_at node) e ∙ hit-is m.node node q)) in
            let same : same_id m.node node ≡ true = ap (λ j. same_id j node) q ∙ same_id-refl node in
            ap (λ b. if b then named a i else None) one ∙ sym (ap (off_node node) e ∙ ap (λ b. if b then None else Some m) same)
        | inr ne ↦
            let zero : (times i (ids_at node nodes) == 0) ≡ true = ap (λ n. n == 0) (k.on node i ∙ (ap (count_at node) e ∙ hit-other m.node node ne)) in
            ap (λ b. if b then named a i else None) zero ∙ (e ∙ sym (ap (off_node node) e ∙ ap (λ b. if b then None else Some m) (same_id-other m.node node ne)))
      ]

  -- what is left was there
  off_some : (o : Option Installed) (v : Installed) → off_node node o ≡ Some v → o ≡ Some v
  off_some None v h = h
  off_some (Some m) v h = by_case (same_id m.node node) h
    where
      by_case : (b : Bool) → (if b then None else Some m) ≡ Some v → Some m ≡ Some v
      by_case true h = absurd (none_some None v refl h)
      by_case false h = h

  lives : (i : Id) (v : Installed) → named b i ≡ Some v → named a i ≡ Some v
  lives i v h = off_some (named a i) v (sym (names i) ∙ h)

  some_lives : (i : Id) → IsSome (named b i) → IsSome (named a i)
  some_lives i live = by_case (named b i) refl live
    where
      by_case : (o : Option Installed) → named b i ≡ o → IsSome o → IsSome (named a i)
      by_case None e h = absurd (let no : false ≡ true = h in cc)
      by_case (Some v) e h = ap is_some (lives i v e)

  still_stamped : IsStamped b
  still_stamped = fewer-stamped a b k.stamps made some_lives

  stamps_off : (s : ℕ) → by_stamp b s ≡ off_node node (by_stamp a s)
  stamps_off s = by_case (by_stamp b s) (by_stamp a s) refl refl
    where
      by_case : (p q : Option Installed) → by_stamp b s ≡ p → by_stamp a s ≡ q → by_stamp b s ≡ off_node node (by_stamp a s)
      by_case (Some v) q eb ea =
          let r = by_stamp-id b s v eb in
          let was : by_stamp a s ≡ Some v = ap (by_stamp a) (sym r.1) ∙ by_stamp-live a r.0 v k.stamps (lives r.0 v r.2) in
          eb ∙ (sym r.2 ∙ (names r.0 ∙ ap (off_node node) (lives r.0 v r.2 ∙ sym was)))
      by_case None None eb ea = eb ∙ sym (ap (off_node node) ea)
      by_case None (Some m) eb ea =
          let r = by_stamp-id a s m ea in
          let now : named b r.0 ≡ off_node node (by_stamp a s) = names r.0 ∙ ap (off_node node) (r.2 ∙ sym ea) in
          by_end (named b r.0) r.0 refl now r.1 eb
        where
          by_end : (o : Option Installed) (i : Id) → named b i ≡ o → o ≡ off_node node (by_stamp a s) → i.1 ≡ s → by_stamp b s ≡ None → by_stamp b s ≡ off_node node (by_stamp a s)
          by_end None i is now e none = none ∙ now
          by_end (Some v) i is now e none = absurd (none_some (by_stamp b s) v none (sym (ap (by_stamp b) e) ∙ by_stamp-live b i v still_stamped is))

  left_counts : (n i : Id) → times i (ids_at n now) ≡ count_at n (named b i)
  left_counts n i = ap (times i) (on n) ∙ (by_node (id_cases n node) ∙ sym (ap (count_at n) (names i)))
    where
      other : (o : Option Installed) → n ≢ node → count_at n (off_node node o) ≡ count_at n o
      other None ne = refl
      other (Some m) ne = elim (id_cases m.node node) [
        | inl q ↦
            ap (λ b. count_at n (if b then None else Some m)) (ap (λ j. same_id j node) q ∙ same_id-refl node)
            ∙ sym (hit-other m.node n (λ e. ne (sym e ∙ q)))
        | inr off ↦ ap (λ b. count_at n (if b then None else Some m)) (same_id-other m.node node off)
      ]

      here : (o : Option Installed) → n ≡ node → count_at n (off_node node o) ≡ 0
      here None e = refl
      here (Some m) e = elim (id_cases m.node node) [
        | inl q ↦ ap (λ b. count_at n (if b then None else Some m)) (ap (λ j. same_id j node) q ∙ same_id-refl node)
        | inr off ↦
            ap (λ b. count_at n (if b then None else Some m)) (same_id-other m.node node off)
            ∙ hit-other m.node n (λ q. off (q ∙ e))
      ]

      by_node : (n ≡ node) ⊎ (n ≢ node) → times i (without_node node (λ j. ids_at j nodes) n) ≡ count_at n (off_node node (named a i))
      by_node (inl e) = times-without i node n (λ j. ids_at j nodes) e ∙ sym (here (named a i) e)
      by_node (inr ne) = times-without_other i node n (λ j. ids_at j nodes) ne ∙ (k.on n i ∙ sym (other (named a i) ne))

  pub dropped_kept : IsKept b now ins ups
  dropped_kept = record {
    stamps = still_stamped;
    on = left_counts;
    installs_given = given_later a.made b.made ins (omega (arith, made)) k.installs_given;
    updates_given = given_later a.made b.made ups (omega (arith, made)) k.updates_given;
  }

  pub dropped : Drops (seen a nodes ins ups) (seen b now ins ups) node
  dropped = record {
    names = names;
    stamps = stamps_off;
    own = λ i own. record {
      below = let lt = own.below in omega (arith, lt, made);
      same = names i ∙ (ap (off_node node) own.same ∙ sym (stamps_off i.1));
    };
    made = made;
    on = on;
    installs = living-off a b node ins names;
    updates = living-off a b node ups names;
  }

-- before they are ended, those of a node live, each once
pub node_lives : (a : Arena Installed) (nodes : List (Id × List Id)) (ins ups : List Id) (node : Id) → IsKept a nodes ins ups → (i : Id) → 0 < times i (ids_at node nodes) → IsSome (named a i)
node_lives a nodes ins ups node k i lt = by_case (named a i) refl
  where
    by_case : (o : Option Installed) → named a i ≡ o → IsSome (named a i)
    by_case None e = let count = k.on node i in let none = ap (count_at node) e in absurd (omega (arith, lt, count, none))
    by_case (Some m) e = ap is_some e

pub node_once : (a : Arena Installed) (nodes : List (Id × List Id)) (ins ups : List Id) (node : Id) → IsKept a nodes ins ups → (i : Id) → times i (ids_at node nodes) ≤ 1
node_once a nodes ins ups node k i = let count = k.on node i in let one = at_most (named a i) in omega (arith, count, one)
  where
    at_most : (o : Option Installed) → count_at node o ≤ 1
    at_most None = omega arith
    at_most (Some m) = elim (id_cases m.node node) [
      | inl q ↦ let h = hit-is m.node node q in omega (arith, h)
      | inr ne ↦ let h = hit-other m.node node ne in omega (arith, h)
    ]
