-- The table as contracts see it, after each call.
use Rattle.std.proofs.Common.{◌≡◌, ℕ, ◌==◌, Bool, true, false, Option, Some, None, option_map, refl, sym, ap, ◌∙◌, IsSome}
use Rattle.std.specs.Prelude.{if◌then◌else◌}
use Rattle.gl_arena.specs.Id.{Id}
use Rattle.gl_arena.specs.Arena.{Arena, named, with_value}
use Rattle.gl_arena.proofs.Mapped.{named-mapped, with_value-mapped}
use Rattle.gl_mods.specs.Mods as m
use Rattle.gl_mods.specs.Mods.{Args, NamedArgs, with_values}
use Rattle.gl_mods.specs.Kept.{ended}
use Rattle.gl_mods.specs.View.{seen_installed, seen_table}
use Rattle.gl_mods.specs.declared.installed.Installed.{Installed}

-- some ids live no more
pub ended_seen : (a b : Arena Installed) (g : Id → ℕ) → ((i : Id) → named b i ≡ ended g (named a) i) → (i : Id) → named (seen_table b) i ≡ ended g (named (seen_table a)) i
unfolding ended
ended_seen a b g gone i =
    named-mapped seen_installed b i
    ∙ (ap (option_map seen_installed) (gone i)
    ∙ (push (g i == 0) (named a i) ∙ ap (λ o. if g i == 0 then o else None) (sym (named-mapped seen_installed a i))))
  where
    push : (b : Bool) (o : Option Installed) → option_map seen_installed (if b then o else None) ≡ (if b then option_map seen_installed o else None)
    push true o = refl
    push false o = refl

-- one has other values
pub record Put (a b : Arena m.Installed) (id : Id) (args : Args) (values : NamedArgs) : Type 0 where
  pub was : m.Installed
  pub live : named a id ≡ Some was
  pub put : b ≡ with_value a id (with_values args values was)

pub put_seen : (a b : Arena Installed) (id : Id) (args : Args) (values : NamedArgs) → IsSome (named a id) → ((m : Installed) → named a id ≡ Some m → b ≡ with_value a id (record m { args = args; named = values })) → Put (seen_table a) (seen_table b) id args values
put_seen a b id args values live put = by_case (named a id) refl live
  where
    by_case : (o : Option Installed) → named a id ≡ o → IsSome o → Put (seen_table a) (seen_table b) id args values
    by_case None e h = absurd (let no : false ≡ true = h in cc)
    by_case (Some m) e h = record {
      was = seen_installed m;
      live = named-mapped seen_installed a id ∙ ap (option_map seen_installed) e;
      put = ap seen_table (put m e) ∙ with_value-mapped seen_installed a id (record m { args = args; named = values });
    }
