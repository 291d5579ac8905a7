-- Parts that are replaced one after another, side by side and one below another.
use Rattle.std.proofs.Common.{◌≡◌, ◌≢◌, ℕ, ◌+◌, ◌<◌, ◌≤◌, List, [], ◌∷◌, ◌++◌, Option, Some, None, refl, sym, ap, subst, ◌∙◌, inl, inr, arith, append_assoc, append-nil}
use Rattle.std.proofs.lemmas.Bool.{cases_lt}
use Rattle.gl_nodes.specs.Forest.{Forest}
use Rattle.gl_nodes.specs.Tree.{Tree}
use Rattle.gl_nodes.specs.Flat.{stands, kids, head_of, IsFlat}
use Rattle.gl_nodes.proofs.Flats.{stamp-same}
use Rattle.gl_nodes.proofs.Orders.{tree_is_read}
use Rattle.gl_machine.specs.Shape.{Nest, end, tree, joined}
use Rattle.gl_code.specs.Hung.{tops, stands_in, nest_of}
use Rattle.gl_seats.specs.Seats.{Nested, Stood, Replaced, Replaces, Unseats, UnseatsEach, SeatsBefore, IsBehind, IsBefore}
use Rattle.gl_seats.specs.Midway.{all}
use Rattle.gl_seats.proofs.Nests.{tops-joined, stands_in-joined, nested_both, nested_parts, nested_same, of_some, tops-nest_of, stands_in-nest_of, nested-nest_of, nest_is}

-- What stands in the forest beside a nest stands there as it was, once another nest is in the place of that one.
pub frame : (f g : Forest) (p : Option ℕ) (front back : List ℕ) (x y z : Nest ℕ) → Replaced f g p front x y back → ((s : ℕ) → stands s f ≤ 1) → Nested f z
    → ((s : ℕ) → stands_in s z + stands_in s x ≤ stands s f) → ((s : ℕ) → p ≡ Some s → stands_in s z ≡ 0)
    → Nested g z × ((s : ℕ) → stands_in s z + stands_in s y ≤ stands s g)
frame f g p front back x y z a once nested beside apart = (nested_same f g z kept nested, still)
  where
    still : (s : ℕ) → stands_in s z + stands_in s y ≤ stands s g
    still s = let c = a.counts s in let w = beside s in omega (arith, c, w)

    kept : (s : ℕ) → 0 < stands_in s z → kids (Some s) g ≡ kids (Some s) f
    kept s lt = a.others (Some s) (λ e. let o = apart s (sym e) in absurd (omega (arith, o, lt))) (λ q e. off q (subst (λ n. 0 < stands_in n z) (of_some s q e) lt))
      where
        off : (q : ℕ) → 0 < stands_in q z → (stands_in q x ≡ 0) × (stands_in q y ≡ 0)
        off q lt = let o = once q in let n = a.stood.once q in let b = beside q in let c = still q in (omega (arith, o, b, lt), omega (arith, n, c, lt))

-- the two parts of what stands there
pub stood_left : (f : Forest) (p : Option ℕ) (front back : List ℕ) (x y : Nest ℕ) → Stood f p front (joined x y) back → Stood f p front x (tops y ++ back)
stood_left f p front back x y a = record {
  line = a.line ∙ ap (λ l. front ++ l) (ap (λ l. l ++ back) (tops-joined x y) ∙ append_assoc (tops x) (tops y) back);
  nested = (nested_parts f x y a.nested).0;
  within = λ s. let w = a.within s in let j = stands_in-joined s x y in omega (arith, w, j);
  once = a.once;
  parent = a.parent;
  apart = λ s e. let w = a.apart s e in let j = stands_in-joined s x y in omega (arith, w, j);
}

-- what stands there with what is nested beside it
pub stood_joined : (f : Forest) (p : Option ℕ) (front back : List ℕ) (x y : Nest ℕ) → Stood f p (front ++ tops x) y back → Nested f x → ((s : ℕ) → stands_in s x + stands_in s y ≤ stands s f)
    → ((s : ℕ) → p ≡ Some s → stands_in s x ≡ 0) → Stood f p front (joined x y) back
stood_joined f p front back x y a nested within apart = record {
  line = a.line ∙ (append_assoc front (tops x) (tops y ++ back) ∙ ap (λ l. front ++ l) (sym (append_assoc (tops x) (tops y) back) ∙ ap (λ l. l ++ back) (sym (tops-joined x y))));
  nested = nested_both f x y nested a.nested;
  within = λ s. let w = within s in let j = stands_in-joined s x y in omega (arith, w, j);
  once = a.once;
  parent = a.parent;
  apart = λ s e. let w = a.apart s e in let v = apart s e in let j = stands_in-joined s x y in omega (arith, w, v, j);
}

-- what is nested between two that stand there
pub stood_right : (f : Forest) (p : Option ℕ) (front back : List ℕ) (x y : Nest ℕ) → Stood f p front x (tops y ++ back) → Nested f y → ((s : ℕ) → stands_in s y ≤ stands s f)
    → ((s : ℕ) → p ≡ Some s → stands_in s y ≡ 0) → Stood f p (front ++ tops x) y back
stood_right f p front back x y a nested within apart = record {
  line = a.line ∙ sym (append_assoc front (tops x) (tops y ++ back));
  nested = nested;
  within = within;
  once = a.once;
  parent = a.parent;
  apart = apart;
}

pub replaces_same : (f : Forest) (p : Option ℕ) (x : Nest ℕ) → Replaces f f p x x
replaces_same f p x front back a = record { stood = a; others = λ q ne off. refl; counts = λ s. refl }

pub replaces_joined : (f g h : Forest) (p : Option ℕ) (x y u v : Nest ℕ) → Replaces f g p x y → Replaces g h p u v → Replaces f h p (joined x u) (joined y v)
replaces_joined f g h p x y u v first second front back stood =
    let a : Replaced f g p front x y (tops u ++ back) = first front (tops u ++ back) (stood_left f p front back x u stood) in
    let parts = nested_parts f x u stood.nested in
    let later = frame f g p front (tops u ++ back) x y u a stood.once parts.1 (λ s. let w = stood.within s in let j = stands_in-joined s x u in omega (arith, w, j)) (λ s e. let w = stood.apart s e in let j = stands_in-joined s x u in omega (arith, w, j)) in
    let b : Replaced g h p (front ++ tops y) u v back =
    second (front ++ tops y) back
    (stood_right g p front back y u a.stood later.0 (λ s. let w = later.1 s in omega (arith, w)) (λ s e. let w = stood.apart s e in let j = stands_in-joined s x u in omega (arith, w, j))) in
    let before = frame g h p (front ++ tops y) back u v y b a.stood.once a.stood.nested (λ s. let w = later.1 s in omega (arith, w)) a.stood.apart in record {
      stood = stood_joined h p front back y v b.stood before.0 before.1 a.stood.apart;
      others = λ q ne off. b.others q ne (λ s e. let o = off s e in let j = stands_in-joined s x u in let i = stands_in-joined s y v in let o0 = o.0 in let o1 = o.1 in (omega (arith, o0, j), omega (arith, o1, i)))
          ∙ a.others q ne (λ s e. let o = off s e in let j = stands_in-joined s x u in let i = stands_in-joined s y v in let o0 = o.0 in let o1 = o.1 in (omega (arith, o0, j), omega (arith, o1, i)));
      counts = λ s. let c = a.counts s in let d = b.counts s in let j = stands_in-joined s x u in let i = stands_in-joined s y v in omega (arith, c, d, j, i);
    }

pub replaces_within : (f g : Forest) (p : Option ℕ) (l x y r : Nest ℕ) → Replaces f g p x y → Replaces f g p (joined l (joined x r)) (joined l (joined y r))
replaces_within f g p l x y r a = replaces_joined f f g p l l (joined x r) (joined y r) (replaces_same f p l) (replaces_joined f g g p x y r r a (replaces_same g p r))

pub replaces_then : (f g h : Forest) (p : Option ℕ) (x y z : Nest ℕ) → ((s : ℕ) → 0 < stands_in s y → 0 < stands_in s x) → Replaces f g p x y → Replaces g h p y z → Replaces f h p x z
replaces_then f g h p x y z of first second front back stood = let a : Replaced f g p front x y back = first front back stood in let b : Replaced g h p front y z back = second front back a.stood in record {
  stood = b.stood;
  others = λ q ne off. b.others q ne (λ s e. let o = off s e in (gone s o.0, o.1)) ∙ a.others q ne (λ s e. let o = off s e in (o.0, gone s o.0));
  counts = λ s. let c = a.counts s in let d = b.counts s in omega (arith, c, d);
}
  where
    gone : (s : ℕ) → stands_in s x ≡ 0 → stands_in s y ≡ 0
    gone s off = elim (cases_lt 0 (stands_in s y)) [
      | inl lt ↦ let w = of s lt in absurd (omega (arith, w, off))
      | inr none ↦ omega (arith, none)
    ]

pub replaces_as : (f g : Forest) (p : Option ℕ) (x x' y y' : Nest ℕ) → x ≡ x' → y ≡ y' → Replaces f g p x y → Replaces f g p x' y'
replaces_as f g p x x' y y' was is a = subst (λ k. Replaces f g p x' k) is (subst (λ k. Replaces f g p k y) was a)

pub replaces_body : (f g : Forest) (p : Option ℕ) (s : ℕ) (x y : Nest ℕ) → Replaces f g (Some s) x y → Replaces f g p (tree s x end) (tree s y end)
replaces_body f g p s x y inner front back stood =
    let a : Replaced f g (Some s) [] x y [] = inner [] [] below in record {
      stood = record {
        line = a.others p not_node (λ q e. (let w = stood.apart q e in omega (arith, w), fresh a q e)) ∙ stood.line;
        nested = (a.stood.line ∙ append-nil (tops y), a.stood.nested, tt);
        within = λ q. let c = a.counts q in let w = stood.within q in omega (arith, c, w);
        once = a.stood.once;
        parent = λ q e. let c = a.counts q in let w = stood.parent q e in let o = stood.apart q e in omega (arith, c, w, o);
        apart = λ q e. let n = fresh a q e in let o = stood.apart q e in omega (arith, n, o);
      };
      others = λ q ne off. a.others q (λ e. let o = (off s e).0 in let one = stamp-same s in absurd (omega (arith, o, one))) (λ n e. let o = (off n e).0 in let i = (off n e).1 in (omega (arith, o), omega (arith, i)));
      counts = λ q. let c = a.counts q in omega (arith, c);
    }
  where
    below : Stood f (Some s) [] x []
    below = record {
      line = stood.nested.0 ∙ sym (append-nil (tops x));
      nested = stood.nested.1;
      within = λ q. let w = stood.within q in omega (arith, w);
      once = stood.once;
      parent = λ q e. let same = of_some s q e in subst (λ n. 0 < stands n f) same (let w = stood.within s in let one = stamp-same s in omega (arith, w, one));
      apart = λ q e. let same = of_some s q e in subst (λ n. stands_in n x ≡ 0) same (let w = stood.within s in let one = stamp-same s in let o = stood.once s in omega (arith, w, one, o));
    }

    not_node : p ≢ Some s
    not_node e = let o = stood.apart s e in let one = stamp-same s in absurd (omega (arith, o, one))

    -- the parent is none of the new ones, since it stood there before
    fresh : Replaced f g (Some s) [] x y [] → (q : ℕ) → p ≡ Some q → stands_in q y ≡ 0
    fresh a q e = let c = a.counts q in let o = stood.apart q e in let w = stood.parent q e in let n = a.stood.once q in omega (arith, c, o, w, n)

-- a place that was behind a nest which is gone, and new nodes stand there
pub replaces_anew : (f g h : Forest) (p next : Option ℕ) (x y : Nest ℕ) → IsBehind f p x next → Replaces f g p x end → SeatsBefore g h p next y → Replaces f h p x y
replaces_anew f g h p next x y behind gone seats front back stood = let a : Replaced f g p front x end back = gone front back stood in let b : Replaced g h p front end y back = seats front back a.stood (behind front back stood) in record {
  stood = b.stood;
  others = λ q ne off. b.others q ne (λ s e. let o = off s e in (refl, o.1)) ∙ a.others q ne (λ s e. let o = off s e in (o.0, refl));
  counts = λ s. let c = a.counts s in let d = b.counts s in omega (arith, c, d);
}

pub unseats_all : (f g : Forest) (xs : List (Nest ℕ)) → UnseatsEach f g xs → Unseats f g (all xs)
unseats_all f g [] e p = subst (λ k. Replaces f k p end end) (sym e) (replaces_same f p end)
unseats_all f g (x ∷ xs) e p = replaces_joined f e.0 g p x end (all xs) end (e.1 p) (unseats_all e.0 g xs e.2 p)

pub seats_nothing : (f : Forest) (p next : Option ℕ) → SeatsBefore f f p next end
seats_nothing f p next front back stood at = replaces_same f p end front back stood

pub seats_joined : (f g h : Forest) (p next : Option ℕ) (x y : Nest ℕ) → SeatsBefore f g p next x → SeatsBefore g h p next y → SeatsBefore f h p next (joined x y)
seats_joined f g h p next x y first second front back stood at =
    let a : Replaced f g p front end x back = first front back stood at in
    let b : Replaced g h p (front ++ tops x) end y back = second (front ++ tops x) back (stood_right g p front back x end a.stood tt (λ s. omega arith) (λ s e. refl)) at in
    let before = frame g h p (front ++ tops x) back end y x b a.stood.once a.stood.nested (λ s. let w = a.stood.within s in omega (arith, w)) a.stood.apart in record {
      stood = stood_joined h p front back x y b.stood before.0 before.1 a.stood.apart;
      others = λ q ne off. b.others q ne (λ s e. let o = (off s e).1 in let j = stands_in-joined s x y in (refl, omega (arith, o, j))) ∙ a.others q ne (λ s e. let o = (off s e).1 in let j = stands_in-joined s x y in (refl, omega (arith, o, j)));
      counts = λ s. let c = a.counts s in let d = b.counts s in let j = stands_in-joined s x y in omega (arith, c, d, j);
    }

-- The whole forest.

pub stood_whole : (t : Tree) (x : Nest ℕ) → IsFlat t → nest_of t.forest ≡ x → Stood t.forest None [] x []
stood_whole t x flat e = subst (λ n. Stood t.forest None [] n []) e (record {
  line = sym (append-nil (tops (nest_of t.forest)) ∙ tops-nest_of t.forest);
  nested = nested-nest_of t.forest t.forest (tree_is_read t flat);
  within = λ s. let q = stands_in-nest_of s t.forest in omega (arith, q);
  once = flat.once;
  parent = λ s e. absurd (let no : None ≡ Some s = e in cc);
  apart = λ s e. absurd (let no : None ≡ Some s = e in cc);
})

pub whole_stood : (t : Tree) (y : Nest ℕ) → IsFlat t → Stood t.forest None [] y [] → nest_of t.forest ≡ y
whole_stood t y flat a = nest_is t.forest t.forest y (tree_is_read t flat) a.nested (a.line ∙ append-nil (tops y))

-- What is gone.

pub unseats_nothing : (f : Forest) → Unseats f f end
unseats_nothing f p = replaces_same f p end

pub unseats_joined : (f g h : Forest) (x y : Nest ℕ) → Unseats f g x → Unseats g h y → Unseats f h (joined x y)
unseats_joined f g h x y a b p = replaces_joined f g h p x end y end (a p) (b p)

-- what stands in a node, and then the node
pub unseats_tree : (f g h : Forest) (s : ℕ) (x : Nest ℕ) → Unseats f g x → Unseats g h (tree s end end) → Unseats f h (tree s x end)
unseats_tree f g h s x a b p = replaces_then f g h p (tree s x end) (tree s end end) end (λ q lt. omega (arith, lt)) (replaces_body f g p s x end (a (Some s))) (b p)

-- Places.

-- what is behind the last of two is behind both
pub behind_last : (f : Forest) (p next : Option ℕ) (x y : Nest ℕ) → IsBehind f p y next → IsBehind f p (joined x y) next
behind_last f p next x y behind front back stood = behind (front ++ tops x) back (stood_right f p front back x y (stood_left f p front back x y stood) (nested_parts f x y stood.nested).1
    (λ s. let w = stood.within s in let j = stands_in-joined s x y in omega (arith, w, j)) (λ s e. let w = stood.apart s e in let j = stands_in-joined s x y in omega (arith, w, j)))

-- the first of a nest stands before what is behind it
pub before_first : (s : ℕ) (x : Nest ℕ) → Some s ≡ head_of (tops x) → IsBefore x (Some s)
before_first s end e back = absurd (let no : Some s ≡ None = e in cc)
before_first s (tree q k r) e back = e

pub before_more : (next : Option ℕ) (x y : Nest ℕ) → IsBefore x next → IsBefore (joined x y) next
before_more next x y before back = before (tops y ++ back) ∙ ap head_of (sym (ap (λ l. l ++ back) (tops-joined x y) ∙ append_assoc (tops x) (tops y) back))
