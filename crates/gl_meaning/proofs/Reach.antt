-- What is read at a place, and who owns an action there, stands at or above it.
use Rattle.gl_meaning.specs.Laws.{Owners, OwnersAll, OwnersMembers, Sources, PairIn, PairsIn, NamesIn}
use Rattle.std.proofs.Common.{ℕ, zero, suc, List, [], ◌∷◌, ◌++◌, map, length, Bool, true, false, Option, Some, None, cond}
use Rattle.std.specs.Prelude.{int_lt, reverse, ℤ, pos, if◌then◌else◌, unwrap_or, filter, codes, nat_lt, ◌&&◌, not}
use mathlib.Core.List.{reverse_aux}
use Rattle.std.specs.Ordering.{int_eq}
use mathlib.Core.List.{reverse_aux}
use Rattle.std.specs.Bool.{beq}
use Rattle.std.specs.Str.{bytes_eq}
use Rattle.gl_base.specs.Names.{named, last_named, or_else, at_place}
use Rattle.gl_base.specs.Texts.{Text, text_less}
use Rattle.gl_meaning.specs.App.{App}
use Rattle.gl_meaning.specs.Eval
use Rattle.gl_value.specs.Helpers
use Rattle.gl_meaning.specs.Path
use Rattle.gl_meaning.specs.Scope
use Rattle.gl_ast.specs.Template
use Rattle.gl_value.specs.Value

module _ (P : Path.Path → Type 0) where
  abbrev pub OwnersList : List Path.V → Type 0
  OwnersList [] = Unit {0}
  OwnersList (x ∷ xs) = Owners P x × OwnersList xs

  abbrev pub OwnersNames : List (Text × Path.V) → Type 0
  OwnersNames [] = Unit {0}
  OwnersNames (n ∷ ns) = Owners P n.1 × OwnersNames ns

  mutual
    pub owners_plain : (x : Template.Plain) → Owners P (Value.plain x)
    owners_plain Value.undefined = tt
    owners_plain Value.null = tt
    owners_plain (Value.boolean b) = tt
    owners_plain (Value.integer z) = tt
    owners_plain (Value.text x) = tt
    owners_plain (Value.list vs) = owners-plain-all vs
    owners_plain (Value.pairs ms) = owners-plain-members ms
    owners_plain (Value.action o n vs) = tt

    owners-plain-all : (vs : Value.Values ⊥) → OwnersAll P (Value.plain_values vs)
    owners-plain-all Value.no_values = tt
    owners-plain-all (Value.value x vs) = (owners_plain x, owners-plain-all vs)

    owners-plain-members : (ms : Value.Members ⊥) → OwnersMembers P (Value.plain_members ms)
    owners-plain-members Value.no_members = tt
    owners-plain-members (Value.member n x ms) = (owners_plain x, owners-plain-members ms)

  mutual
    pub owners_plain_of : {O : Type 0} (x : Value.Value O) → Owners P (Value.plain x)
    owners_plain_of Value.undefined = tt
    owners_plain_of Value.null = tt
    owners_plain_of (Value.boolean b) = tt
    owners_plain_of (Value.integer z) = tt
    owners_plain_of (Value.text x) = tt
    owners_plain_of (Value.list vs) = plain-of-all vs
    owners_plain_of (Value.pairs ms) = plain-of-members ms
    owners_plain_of (Value.action o n vs) = tt

    plain-of-all : {O : Type 0} (vs : Value.Values O) → OwnersAll P (Value.plain_values vs)
    plain-of-all Value.no_values = tt
    plain-of-all (Value.value x vs) = (owners_plain_of x, plain-of-all vs)

    plain-of-members : {O : Type 0} (ms : Value.Members O) → OwnersMembers P (Value.plain_members ms)
    plain-of-members Value.no_members = tt
    plain-of-members (Value.member n x ms) = (owners_plain_of x, plain-of-members ms)

  owners-if : (b : Bool) (x y : Path.V) → Owners P x → Owners P y → Owners P (if b then x else y)
  owners-if true x y a b = a
  owners-if false x y a b = b

  owners-member-at : (k : Text) (ms : Value.Members Path.Path) → OwnersMembers P ms → Owners P (Value.member_at k ms)
  owners-member-at k Value.no_members a = tt
  owners-member-at k (Value.member l x ms) a = owners-if (bytes_eq k l) x (Value.member_at k ms) a.0 (owners-member-at k ms a.1)

  owners-item-at : (k : Text) (i : ℕ) (vs : Value.Values Path.Path) → OwnersAll P vs → Owners P (Value.item_at k i vs)
  owners-item-at k i Value.no_values a = tt
  owners-item-at k i (Value.value x vs) a = owners-if (bytes_eq k _) x (Value.item_at k (suc i) vs) a.0 (owners-item-at k (suc i) vs a.1)

  owners-property : (k : Text) (x : Path.V) → Owners P x → Owners P (Value.property k x)
  owners-property k (Value.pairs ms) a = owners-member-at k ms a
  owners-property k (Value.list vs) a = owners-if (bytes_eq k (codes "length")) (Value.count_value (Value.values_count vs)) (Value.item_at k 0 vs) tt (owners-item-at k 0 vs a)
  owners-property k (Value.text x) a = owners-if (bytes_eq k (codes "length")) (Value.count_value (length x)) Value.undefined tt tt
  owners-property k Value.undefined a = tt
  owners-property k Value.null a = tt
  owners-property k (Value.boolean b) a = tt
  owners-property k (Value.integer z) a = tt
  owners-property k (Value.action o n vs) a = tt

  owners-properties : (ks : List Text) (x : Path.V) → Owners P x → Owners P (Value.properties ks x)
  owners-properties [] x a = a
  owners-properties (k ∷ ks) x a = owners-properties ks (Value.property k x) (owners-property k x a)

  owners-values : (xs : List Path.V) → OwnersList xs → OwnersAll P (Value.values_of xs)
  owners-values [] a = tt
  owners-values (x ∷ xs) a = (a.0, owners-values xs a.1)

  owners-list : (vs : Value.Values Path.Path) → OwnersAll P vs → OwnersList (Value.list_of vs)
  owners-list Value.no_values a = tt
  owners-list (Value.value x vs) a = (a.0, owners-list vs a.1)

  owners-append : (xs ys : List Path.V) → OwnersList xs → OwnersList ys → OwnersList (xs ++ ys)
  owners-append [] ys a b = b
  owners-append (x ∷ xs) ys a b = (a.0, owners-append xs ys a.1 b)

  owners-filter : (test : Path.V → Bool) (xs : List Path.V) → OwnersList xs → OwnersList (filter test xs)
  owners-filter test [] a = tt
  owners-filter test (x ∷ xs) a = elim (test x) as (λ b. OwnersList (cond b (x ∷ filter test xs) (filter test xs))) [ true ↦ (a.0, owners-filter test xs a.1) | false ↦ owners-filter test xs a.1 ]

  owners-map : (f : Path.V → Path.V) → ((x : Path.V) → Owners P x → Owners P (f x)) → (xs : List Path.V) → OwnersList xs → OwnersList (map f xs)
  owners-map f k [] a = tt
  owners-map f k (x ∷ xs) a = (k x a.0, owners-map f k xs a.1)

  owners-at : (i : ℕ) (xs : List Path.V) → OwnersList xs → Owners P (at_place Value.undefined i xs)
  owners-at i [] a = tt
  owners-at zero (x ∷ xs) a = a.0
  owners-at (suc i) (x ∷ xs) a = owners-at i xs a.1

  owners-rest : (xs : List Path.V) → OwnersList xs → OwnersList (Helpers.rest_of xs)
  owners-rest [] a = tt
  owners-rest (x ∷ xs) a = a.1

  owners-put : (k : Text) (x : Path.V) (ms : Value.Members Path.Path) → Owners P x → OwnersMembers P ms → OwnersMembers P (Helpers.put_member k x ms)
  owners-put k x Value.no_members a b = (a, tt)
  owners-put k x (Value.member l y ms) a b = chosen (owners-put k x ms a b.1) (bytes_eq k l) (text_less k l) where
    chosen : OwnersMembers P (Helpers.put_member k x ms) → (c d : Bool) → OwnersMembers P (if c then Value.member k x ms else (if d then Value.member k x (Value.member l y ms) else Value.member l y (Helpers.put_member k x ms)))
    chosen r true d = (a, b.1)
    chosen r false true = (a, b)
    chosen r false false = (b.0, r)

  owners-members : (ms : Value.Members Path.Path) (ns : List (Text × Path.V)) → OwnersMembers P ms → OwnersNames ns → OwnersMembers P (Helpers.members_of ms ns)
  owners-members ms [] a b = a
  owners-members ms (n ∷ ns) a b = owners-members (Helpers.put_member n.0 n.1 ms) ns (owners-put n.0 n.1 ms b.0 a) b.1

  owners-members-in : (x : Path.V) → Owners P x → OwnersMembers P (Helpers.members_in x)
  owners-members-in (Value.pairs ms) a = a
  owners-members-in (Value.list vs) a = tt
  owners-members-in (Value.text z) a = tt
  owners-members-in Value.undefined a = tt
  owners-members-in Value.null a = tt
  owners-members-in (Value.boolean b) a = tt
  owners-members-in (Value.integer z) a = tt
  owners-members-in (Value.action o n vs) a = tt

  owners-items-in : (x : Path.V) → Owners P x → OwnersList (Helpers.items_in x)
  owners-items-in (Value.list vs) a = owners-list vs a
  owners-items-in (Value.pairs ms) a = tt
  owners-items-in (Value.text z) a = tt
  owners-items-in Value.undefined a = tt
  owners-items-in Value.null a = tt
  owners-items-in (Value.boolean b) a = tt
  owners-items-in (Value.integer z) a = tt
  owners-items-in (Value.action o n vs) a = tt

  owners-fn : (x : Path.V) (xs : List Path.V) → Owners P x → OwnersList xs → Owners P (Helpers.more_fixed x xs)
  owners-fn (Value.action o n vs) xs a b = (a.0, owners-values (Value.list_of vs ++ xs) (owners-append (Value.list_of vs) xs (owners-list vs a.1) b))
  owners-fn (Value.list vs) xs a b = tt
  owners-fn (Value.pairs ms) xs a b = tt
  owners-fn (Value.text z) xs a b = tt
  owners-fn Value.undefined xs a b = tt
  owners-fn Value.null xs a b = tt
  owners-fn (Value.boolean z) xs a b = tt
  owners-fn (Value.integer z) xs a b = tt

  owners-length : (x : Path.V) → Owners P (Helpers.length_value x)
  owners-length (Value.list vs) = tt
  owners-length (Value.text z) = tt
  owners-length (Value.pairs ms) = tt
  owners-length Value.undefined = tt
  owners-length Value.null = tt
  owners-length (Value.boolean z) = tt
  owners-length (Value.integer z) = tt
  owners-length (Value.action o n vs) = tt

  owners-first : (truth : Bool) (last : Path.V) (xs : List Path.V) → Owners P last → OwnersList xs → Owners P (Helpers.first_with truth last xs)
  owners-first truth last [] o a = o
  owners-first truth last (x ∷ xs) o a = owners-if (beq (Value.truthy x) truth) x (Helpers.first_with truth x xs) a.0 (owners-first truth x xs a.0 a.1)

  owners-places : (test : ℤ → Bool) (i : ℕ) (xs : List Path.V) → OwnersList xs → OwnersList (Helpers.at_places test i xs)
  owners-places test i [] a = tt
  owners-places test i (x ∷ xs) a = chosen (test (pos i)) (owners-places test (suc i) xs a.1) where
    chosen : (b : Bool) → OwnersList (Helpers.at_places test (suc i) xs) → OwnersList (if b then x ∷ Helpers.at_places test (suc i) xs else Helpers.at_places test (suc i) xs)
    chosen true r = (a.0, r)
    chosen false r = r

  owners-reverse-onto : (xs ys : List Path.V) → OwnersList xs → OwnersList ys → OwnersList (reverse_aux xs ys)
  owners-reverse-onto [] ys a b = b
  owners-reverse-onto (x ∷ xs) ys a b = owners-reverse-onto xs (x ∷ ys) a.1 (a.0, b)

  owners-reverse : (xs : List Path.V) → OwnersList xs → OwnersList (reverse xs)
  owners-reverse xs a = owners-reverse-onto xs [] a tt

  owners-deep : (x : Path.V) → Owners P x → Owners P (Helpers.not_deep x)
  owners-deep x a = owners-if (nat_lt 100 (Value.depth x)) Value.undefined x tt a

  module _ (eq : Path.Path → Path.Path → Bool) (args : List Path.V) (ns : List (Text × Path.V)) (a : OwnersList args) (b : OwnersNames ns) where
    argument-owners : (i : ℕ) → Owners P (Helpers.argument eq args ns i)
    argument-owners i = owners-at i args a

    -- the first argument as a list, and as a record
    items-owners : OwnersList (Helpers.items_in (Helpers.argument eq args ns 0))
    items-owners = owners-items-in (Helpers.argument eq args ns 0) (argument-owners 0)

    members-owners : OwnersMembers P (Helpers.members_in (Helpers.argument eq args ns 0))
    members-owners = owners-members-in (Helpers.argument eq args ns 0) (argument-owners 0)

    updated-owners : (x : Path.V) → Owners P x → Owners P (Helpers.updated eq args ns x)
    updated-owners x o =
        let key = Value.text_of (Helpers.argument eq args ns 3) in let y = Helpers.argument eq args ns 4 in
        owners-if (Helpers.is_record x && Helpers.has_property eq args ns x) _ x (owners-deep (Value.pairs (Helpers.put_member key y (Helpers.members_in x))) (owners-put key y (Helpers.members_in x) (argument-owners 4) (owners-members-in x o))) o

    owners-raw : (f : Helpers.Helper) → Owners P (Helpers.raw_value eq args ns f)
    owners-raw Helpers.if_helper = owners-if (Value.truthy (Helpers.argument eq args ns 0)) (Helpers.argument eq args ns 1) (Helpers.argument eq args ns 2) (argument-owners 1) (argument-owners 2)
    owners-raw Helpers.unless_helper = owners-if (Value.truthy (Helpers.argument eq args ns 0)) (Helpers.argument eq args ns 2) (Helpers.argument eq args ns 1) (argument-owners 2) (argument-owners 1)
    owners-raw Helpers.concat_helper = tt
    owners-raw Helpers.array_helper = owners-values args a
    owners-raw Helpers.hash_helper = owners-members Value.no_members ns tt b
    owners-raw Helpers.get_helper = owners-properties (Value.split 46 (Value.text_of (Helpers.argument eq args ns 1))) (Helpers.argument eq args ns 0) (argument-owners 0)
    owners-raw Helpers.fn_helper = owners-fn (Helpers.argument eq args ns 0) (Helpers.rest_of args) (argument-owners 0) (owners-rest args a)
    owners-raw Helpers.add_helper = tt
    owners-raw Helpers.sub_helper = tt
    owners-raw Helpers.mul_helper = tt
    owners-raw Helpers.min_helper = tt
    owners-raw Helpers.max_helper = tt
    owners-raw Helpers.eq_helper = tt
    owners-raw Helpers.ne_helper = tt
    owners-raw Helpers.not_helper = tt
    owners-raw Helpers.and_helper = owners-first false Value.undefined args tt a
    owners-raw Helpers.or_helper = owners-first true Value.undefined args tt a
    owners-raw Helpers.lt_helper = tt
    owners-raw Helpers.lte_helper = tt
    owners-raw Helpers.gt_helper = tt
    owners-raw Helpers.gte_helper = tt
    owners-raw Helpers.length_helper = owners-length (Helpers.argument eq args ns 0)
    owners-raw Helpers.append_helper = owners-values _ (owners-append (Helpers.items_in (Helpers.argument eq args ns 0)) _ items-owners (argument-owners 1, tt))
    owners-raw Helpers.remove_at_helper = owners-values _ (owners-places (λ p. not (int_eq p (Helpers.number_of (Helpers.argument eq args ns 1)))) 0 (Helpers.items_in (Helpers.argument eq args ns 0)) items-owners)
    owners-raw Helpers.put_helper = owners-put (Value.text_of (Helpers.argument eq args ns 1)) (Helpers.argument eq args ns 2) (Helpers.members_in (Helpers.argument eq args ns 0)) (argument-owners 2) members-owners
    owners-raw Helpers.slice_helper = owners-values _ (owners-places (λ p. not (int_lt p (Helpers.number_of (Helpers.argument eq args ns 1))) && Helpers.is_before p (Helpers.argument eq args ns 2)) 0 (Helpers.items_in (Helpers.argument eq args ns 0)) items-owners)
    owners-raw Helpers.reverse_helper = owners-values _ (owners-reverse (Helpers.items_in (Helpers.argument eq args ns 0)) items-owners)
    owners-raw Helpers.includes_helper = tt
    owners-raw Helpers.where_helper = owners-values _ (owners-filter (Helpers.has_property eq args ns) (Helpers.items_in (Helpers.argument eq args ns 0)) items-owners)
    owners-raw Helpers.remove_where_helper = owners-values _ (owners-filter (λ x. not (Helpers.has_property eq args ns x)) (Helpers.items_in (Helpers.argument eq args ns 0)) items-owners)
    owners-raw Helpers.update_where_helper = owners-values _ (owners-map (Helpers.updated eq args ns) updated-owners (Helpers.items_in (Helpers.argument eq args ns 0)) items-owners)
    owners-raw Helpers.pluck_helper = owners-values _ (owners-map (Value.property (Value.text_of (Helpers.argument eq args ns 1))) (λ x o. owners-property (Value.text_of (Helpers.argument eq args ns 1)) x o) (Helpers.items_in (Helpers.argument eq args ns 0)) items-owners)
    owners-raw Helpers.join_helper = tt

  -- Pairs
  sources-append : (xs ys : List Scope.Source) → Sources P xs → Sources P ys → Sources P (xs ++ ys)
  sources-append [] ys a b = b
  sources-append (x ∷ xs) ys a b = (a.0, sources-append xs ys a.1 b)

  sources-all : (xs : List Scope.Pair) → PairsIn P xs → Sources P (Scope.sources_of xs)
  sources-all [] a = tt
  sources-all (x ∷ xs) a = sources-append x.sources (Scope.sources_of xs) a.0.0 (sources-all xs a.1)

  sources-names : (xs : Scope.NamedPairs) → NamesIn P xs → Sources P (Scope.sources_of (map (λ n. n.1) xs))
  sources-names [] a = tt
  sources-names (x ∷ xs) a = sources-append x.1.sources _ a.0.0 (sources-names xs a.1)

  values-in : (xs : List Scope.Pair) → PairsIn P xs → OwnersList (Eval.values_in xs)
  values-in [] a = tt
  values-in (x ∷ xs) a = (a.0.1, values-in xs a.1)

  name-values-in : (xs : Scope.NamedPairs) → NamesIn P xs → OwnersNames (map (λ n. (n.0, n.1.value)) xs)
  name-values-in [] a = tt
  name-values-in (x ∷ xs) a = (a.0.1, name-values-in xs a.1)

  pair-at : (i : ℕ) (xs : List Scope.Pair) → PairsIn P xs → PairIn P (at_place Scope.absent i xs)
  pair-at i [] a = (tt, tt)
  pair-at zero (x ∷ xs) a = a.0
  pair-at (suc i) (x ∷ xs) a = pair-at i xs a.1

  branch-in : (unless : Bool) (c x y : Scope.Pair) → PairIn P c → PairIn P x → PairIn P y → PairIn P (Eval.branch_pair unless c x y)
  branch-in unless c x y a b d = chosen (Eval.takes_first unless c.value) where
    chosen : (z : Bool) → PairIn P (Eval.after_reading c (if z then x else y))
    chosen true = (sources-append c.sources x.sources a.0 b.0, b.1)
    chosen false = (sources-append c.sources y.sources a.0 d.0, d.1)

  every-in : (f : Helpers.Helper) (xs : List Scope.Pair) (ns : Scope.NamedPairs) → PairsIn P xs → NamesIn P ns → PairIn P (Eval.all_pair f xs ns)
  every-in f xs ns a b = (
    sources-append (Scope.sources_of xs) _ (sources-all xs a) (sources-names ns b),
    owners-deep _ (owners-raw Path.path_eq (Eval.values_in xs) _ (values-in xs a) (name-values-in ns b) f),
  )

  read-in : (b : Option Bool) (f : Helpers.Helper) (xs : List Scope.Pair) (ns : Scope.NamedPairs) → PairsIn P xs → NamesIn P ns → PairIn P (Eval.pair_read b f xs ns)
  read-in None f xs ns a b = every-in f xs ns a b
  read-in (Some unless) f xs ns a b = branch-in unless _ _ _ (pair-at 0 xs a) (pair-at 1 xs a) (pair-at 2 xs a)

  helper-in : (f : Option Helpers.Helper) (xs : List Scope.Pair) (ns : Scope.NamedPairs) → PairsIn P xs → NamesIn P ns → PairIn P (Eval.helper_pair f xs ns)
  helper-in None xs ns a b = (tt, tt)
  helper-in (Some f) xs ns a b = read-in (Eval.branch_of f) f xs ns a b

  OptionIn : Option Scope.Pair → Type 0
  OptionIn None = Unit {0}
  OptionIn (Some x) = PairIn P x

  last-in : (n : Text) (xs : Scope.NamedPairs) → NamesIn P xs → OptionIn (last_named n xs)
  unfolding OptionIn
  last-in n [] a = tt
  last-in n (x ∷ xs) a = chosen (last_named n xs) (last-in n xs a.1) (bytes_eq n x.0) where
    chosen : (o : Option Scope.Pair) → OptionIn o → (b : Bool) → OptionIn (or_else o (if b then Some x.1 else None))
    chosen (Some y) h b = h
    chosen None h true = a.0
    chosen None h false = tt

  properties-in : (ks : List Text) (x : Scope.Pair) → PairIn P x → PairIn P (Eval.with_properties ks x)
  properties-in ks x a = (a.0, owners-properties ks x.value a.1)

  unwrap-in : (o : Option Scope.Pair) → OptionIn o → PairIn P (unwrap_or o Scope.absent)
  unfolding OptionIn
  unwrap-in None a = (tt, tt)
  unwrap-in (Some x) a = a

  pub argument_reach : (n : Text) (xs : Scope.NamedPairs) → NamesIn P xs → Owners P (unwrap_or (last_named n xs) Scope.absent).value
  argument_reach n xs a = (unwrap-in (last_named n xs) (last-in n xs a)).1

  pub properties_reach : (ks : List Text) (x : Path.V) → Owners P x → Owners P (Value.properties ks x)
  properties_reach = owners-properties

  bare-in : (n : Text) (ks : List Text) (o : Option Scope.Pair) → OptionIn o → PairIn P (Eval.bare_pair n ks o)
  unfolding OptionIn
  bare-in n ks None a = helper-in (named n Helpers.helper_table) [] [] tt tt
  bare-in n ks (Some x) a = properties-in ks x a

  join-in : (xs : List Path.V) → Owners P (Value.join_kept xs)
  join-in [] = tt
  join-in (x ∷ xs) = tt

  module _ (app : App) (σ : Eval.Store) (cells : (i : Path.Path) (x : Text) → Owners P (Eval.cell_value app σ i x)) where
    member-in : (g : Template.Expr → Scope.Pair) → ((x : Template.Expr) → PairIn P (g x)) → (w : Scope.Scope) → P (Scope.this_of w) → (x : Text) (m : Eval.Member) → PairIn P (Eval.member_pair app σ g w x m)
    member-in g k w o x Eval.field_member = ((o, tt), cells (Scope.this_of w) x)
    member-in g k w o x (Eval.getter_member y) = k y
    member-in g k w o x Eval.action_member = (tt, (o, tt))

    module _ (g : Template.Expr → Scope.Pair) (k : (x : Template.Expr) → PairIn P (g x)) (w : Scope.Scope) (o : P (Scope.this_of w)) (a : NamesIn P (Scope.arguments_of w)) (l : NamesIn P (Scope.locals_of w)) where
      mutual
        eval-in : (x : Template.Expr) → PairIn P (Eval.eval_in app σ g w x)
        eval-in (Template.literal z) = (tt, owners_plain z)
        eval-in (Template.this x ks) = properties-in ks _ (member-in g k w o x _)
        eval-in (Template.argument n ks) = properties-in ks _ (unwrap-in (last_named n (Scope.arguments_of w)) (last-in n _ a))
        eval-in (Template.bare n ks) = bare-in n ks (last_named n (Scope.locals_of w)) (last-in n _ l)
        eval-in (Template.call n es ns) = helper-in (named n Helpers.helper_table) _ _ (all-in es) (named-in ns)
        eval-in (Template.cat es) = (sources-all _ (all-in es), join-in _)

        all-in : (es : Template.Exprs) → PairsIn P (Eval.eval_all_in app σ g w es)
        all-in Template.no_exprs = tt
        all-in (Template.expr x es) = (eval-in x, all-in es)

        named-in : (ns : Template.NamedExprs) → NamesIn P (Eval.eval_named_in app σ g w ns)
        named-in Template.no_named = tt
        named-in (Template.named_expr n x ns) = (eval-in x, named-in ns)

    deep-in : (n : ℕ) (w : Scope.Scope) → P (Scope.this_of w) → NamesIn P (Scope.arguments_of w) → NamesIn P (Scope.locals_of w) → (x : Template.Expr) → PairIn P (Eval.eval_deep n app σ w x)
    deep-in zero w o a l x = (tt, tt)
    deep-in (suc n) (Scope.scope i b m u) o a l x = eval-in _ (deep-in n (Scope.scope i b [] Scope.nothing_passed) o a tt) (Scope.scope i b m u) o a l x

    pub eval_reach : (w : Scope.Scope) → P (Scope.this_of w) → NamesIn P (Scope.arguments_of w) → NamesIn P (Scope.locals_of w) → (x : Template.Expr) → PairIn P (Eval.eval app σ w x)
    eval_reach w o a l x = deep-in (suc (Eval.getters_count app w)) w o a l x

    pub eval_all_reach : (w : Scope.Scope) → P (Scope.this_of w) → NamesIn P (Scope.arguments_of w) → NamesIn P (Scope.locals_of w) → (es : Template.Exprs) → PairsIn P (Eval.eval_all app σ w es)
    eval_all_reach (Scope.scope i b m u) o a l es = all-in _ (deep-in (length (Eval.class_at app i).getters) (Scope.scope i b [] Scope.nothing_passed) o a tt) (Scope.scope i b m u) o a l es

    pub eval_named_reach : (w : Scope.Scope) → P (Scope.this_of w) → NamesIn P (Scope.arguments_of w) → NamesIn P (Scope.locals_of w) → (ns : Template.NamedExprs) → NamesIn P (Eval.eval_named app σ w ns)
    eval_named_reach (Scope.scope i b m u) o a l ns = named-in _ (deep-in (length (Eval.class_at app i).getters) (Scope.scope i b [] Scope.nothing_passed) o a tt) (Scope.scope i b m u) o a l ns
