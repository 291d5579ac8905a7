-- Questions that are counted, one after another.
use Rattle.std.proofs.Common.{◌≡◌, ◌+◌, ◌≤◌, ◌<◌, List, [], ◌∷◌, ◌++◌, length, refl, sym, ap, ◌∙◌, subst, arith, true, false, Err}
use Rattle.std.specs.Prelude.{Result, IsOk}
use Rattle.std.proofs.lemmas.List.{length-append}
use Rattle.gl_arena.specs.Id.{Id}
use Rattle.gl_refs.specs.Forms.{Each}
use Rattle.gl_refs.specs.State.{is_position}
use Rattle.gl_refs.specs.Refs.{Refs, rows_of}
use Rattle.gl_vm.specs.declared.vm.Vm.{Vm}
use Rattle.gl_asks.specs.Asked.{CanAskAll, Counted}

-- a machine of which nothing but the count of questions is another
abbrev AsksAlone : Vm → Vm → Type 0
AsksAlone a b = b ≡ record a { refs = record a.refs { asks = b.refs.asks } }

alone_more : (a b c : Vm) → AsksAlone a b → AsksAlone b c → AsksAlone a c
alone_more a b c d e = e ∙ ap (λ (v : Vm). record v { refs = record v.refs { asks = c.refs.asks } }) d

each_first : (P : Id → Type 0) (p q : List Id) → Each P (p ++ q) → Each P p
each_first P [] q h = tt
each_first P (x ∷ p) q h = (h.0, each_first P p q h.1)

each_rest : (P : Id → Type 0) (p q : List Id) → Each P (p ++ q) → Each P q
each_rest P [] q h = h
each_rest P (x ∷ p) q h = each_rest P p q h.1

each_as : (P Q : Id → Type 0) → ((i : Id) → P i → Q i) → (p : List Id) → Each P p → Each Q p
each_as P Q f [] h = tt
each_as P Q f (x ∷ p) h = (f x h.0, each_as P Q f p h.1)

can_first : (r : Refs) (p q : List Id) → CanAskAll r (p ++ q) → CanAskAll r p
can_first r p q h = record {
  asks = let a = h.asks in let e = length-append p q in omega (arith, a, e);
  begun = h.begun;
  positions = each_first (λ i. is_position (rows_of r i) ≡ true) p q h.positions;
}

can_rest : (a b : Vm) (p q : List Id) → AsksAlone a b → b.refs.asks ≤ a.refs.asks + length p → CanAskAll a.refs (p ++ q) → CanAskAll b.refs q
can_rest a b p q d le h = record {
  asks = let n = h.asks in let e = length-append p q in omega (arith, n, e, le);
  begun = subst (λ (v : Vm). 0 < v.refs.tags.clock) (sym d) h.begun;
  positions =
      each_as (λ i. is_position (rows_of a.refs i) ≡ true) (λ i. is_position (rows_of b.refs i) ≡ true) (λ i e. subst (λ (v : Vm). is_position (rows_of v.refs i) ≡ true) (sym d) e) q
      (each_rest (λ i. is_position (rows_of a.refs i) ≡ true) p q h.positions);
}

-- where there was none there is none
pub no_answer : {A B E F : Type 0} (r : Result A E) (s : Result B F) (e : E) → r ≡ Err e → IsOk r → IsOk s
no_answer r s e is ok = absurd (let no : false ≡ true = subst IsOk is ok in cc)

-- the first of two parts tells the answer
pub counted_first : {A B E F : Type 0} (a b : Vm) (p q : List Id) (r : Result A E) (s : Result B F) → (IsOk r → IsOk s) → Counted a b p r → Counted a b (p ++ q) s
counted_first a b p q r s f x = record {
  rest = x.rest;
  most = let le = x.most in let e = length-append p q in omega (arith, le, e);
  answers = λ h. f (x.answers (can_first a.refs p q h));
}

-- one part after another
pub counted_then : {A B C E F G : Type 0} (a b c : Vm) (p q : List Id) (r : Result A E) (s : Result B F) (t : Result C G) → (IsOk s → IsOk t) → Counted a b p r → Counted b c q s → Counted a c (p ++ q) t
counted_then a b c p q r s t f x y = record {
  rest = alone_more a b c x.rest y.rest;
  most = let le = x.most in let lf = y.most in let e = length-append p q in omega (arith, le, lf, e);
  answers = λ h. f (y.answers (can_rest a b p q x.rest x.most h));
}

-- the same questions
pub counted_to : {A E : Type 0} (a b : Vm) (p q : List Id) (r : Result A E) → q ≡ p → Counted a b p r → Counted a b q r
counted_to a b p q r e x = subst (λ ids. Counted a b ids r) (sym e) x

-- none is asked
pub counted_none : {A E : Type 0} (a : Vm) (p : List Id) (r : Result A E) → IsOk r → Counted a a p r
counted_none a p r ok = record { rest = refl; most = omega arith; answers = λ h. ok }

-- Some of all were asked, and these are left.
pub record Going (a b : Vm) (left all : List Id) : Type 0 where
  pub rest : b ≡ record a { refs = record a.refs { asks = b.refs.asks } }
  pub most : b.refs.asks + length left ≤ a.refs.asks + length all
  pub able : CanAskAll a.refs all → CanAskAll b.refs left

pub going_begin : (a : Vm) (all : List Id) → Going a a all all
going_begin a all = record { rest = refl; most = omega arith; able = λ h. h }

module _ {A E : Type 0} (a b c : Vm) (left part more all : List Id) (r : Result A E) (is : left ≡ part ++ more) (x : Going a b left all) (y : Counted b c part r) where
  long : length left ≡ length part + length more
  long = ap length is ∙ length-append part more

  -- one part more
  pub going_next : Going a c more all
  going_next = record {
    rest = alone_more a b c x.rest y.rest;
    most = let le = x.most in let lf = y.most in let e = long in omega (arith, le, lf, e);
    able = λ h. can_rest b c part more y.rest y.most (subst (CanAskAll b.refs) is (x.able h));
  }

  -- the part tells the answer
  pub going_told : {B F : Type 0} (s : Result B F) → (IsOk r → IsOk s) → Counted a c all s
  going_told s f = record {
    rest = alone_more a b c x.rest y.rest;
    most = let le = x.most in let lf = y.most in let e = long in omega (arith, le, lf, e);
    answers = λ h. f (y.answers (can_first b.refs part more (subst (CanAskAll b.refs) is (x.able h))));
  }

-- all were asked
pub going_done : {A E : Type 0} (a b : Vm) (left all : List Id) (r : Result A E) → IsOk r → Going a b left all → Counted a b all r
going_done a b left all r ok x = record { rest = x.rest; most = let le = x.most in omega (arith, le); answers = λ h. ok }
