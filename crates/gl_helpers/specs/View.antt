-- What the code's helpers and texts stand for.
use Rattle.std.specs.Prelude.{ℕ, List}
use Rattle.gl_base.specs.Texts.{Text}
use Rattle.gl_value.specs.Value.{Value}
use Rattle.gl_value.specs.Helpers.{Helper, if_helper, unless_helper, concat_helper, array_helper, hash_helper, get_helper, fn_helper, add_helper, sub_helper, mul_helper, min_helper, max_helper, eq_helper, ne_helper, not_helper, and_helper, or_helper, lt_helper, lte_helper, gt_helper, gte_helper, length_helper, append_helper, remove_at_helper, put_helper, slice_helper, reverse_helper, includes_helper, where_helper, remove_where_helper, update_where_helper, pluck_helper, join_helper}
use Rattle.gl_helpers.specs.declared.helper.Choice.{Choice}
use Rattle.gl_helpers.specs.declared.helper.Choice.TheVariants as choice
use Rattle.gl_helpers.specs.declared.helper.Number.{Number}
use Rattle.gl_helpers.specs.declared.helper.Number.TheVariants as number
use Rattle.gl_helpers.specs.declared.helper.Test.{Test}
use Rattle.gl_helpers.specs.declared.helper.Test.TheVariants as test
use Rattle.gl_helpers.specs.declared.helper.Listing.{Listing}
use Rattle.gl_helpers.specs.declared.helper.Listing.TheVariants as listing
use Rattle.gl_helpers.specs.declared.helper.Writing.{Writing}
use Rattle.gl_helpers.specs.declared.helper.Writing.TheVariants as writing
use Rattle.gl_helpers.specs.declared.helper.Change.{Change}
use Rattle.gl_helpers.specs.declared.helper.Change.TheVariants as change
use Rattle.gl_helpers.specs.declared.helper.Helper.{Helper as Code}
use Rattle.gl_helpers.specs.declared.helper.Helper.TheVariants as code
use Rattle.gl_helpers.specs.declared.wording.Wording.{Wording}
use Rattle.gl_helpers.specs.declared.wording.Wording.TheVariants as wording

-- named arguments
abbrev pub Names : Type 0
Names = List (Text × Value ℕ)

abbrev pub seen_choice : Choice → Helper
seen_choice choice.If = if_helper
seen_choice choice.Unless = unless_helper
seen_choice choice.Get = get_helper
seen_choice choice.Fix = fn_helper
seen_choice choice.And = and_helper
seen_choice choice.Or = or_helper

abbrev pub seen_number : Number → Helper
seen_number number.Add = add_helper
seen_number number.Sub = sub_helper
seen_number number.Mul = mul_helper
seen_number number.Min = min_helper
seen_number number.Max = max_helper
seen_number number.Length = length_helper

abbrev pub seen_test : Test → Helper
seen_test test.Same = eq_helper
seen_test test.Differs = ne_helper
seen_test test.Not = not_helper
seen_test test.Less = lt_helper
seen_test test.LessOrSame = lte_helper
seen_test test.Greater = gt_helper
seen_test test.GreaterOrSame = gte_helper
seen_test test.Includes = includes_helper

abbrev pub seen_listing : Listing → Helper
seen_listing listing.Array = array_helper
seen_listing listing.Append = append_helper
seen_listing listing.RemoveAt = remove_at_helper
seen_listing listing.Slice = slice_helper
seen_listing listing.Reverse = reverse_helper
seen_listing listing.Where = where_helper
seen_listing listing.RemoveWhere = remove_where_helper
seen_listing listing.Pluck = pluck_helper

abbrev pub seen_writing : Writing → Helper
seen_writing writing.Concat = concat_helper
seen_writing writing.Join = join_helper

abbrev pub seen_change : Change → Helper
seen_change change.Hash = hash_helper
seen_change change.Put = put_helper
seen_change change.UpdateWhere = update_where_helper

abbrev pub seen_helper : Code → Helper
seen_helper (code.Choice h) = seen_choice h
seen_helper (code.Number h) = seen_number h
seen_helper (code.Test h) = seen_test h
seen_helper (code.Listing h) = seen_listing h
seen_helper (code.Writing h) = seen_writing h
seen_helper (code.Change h) = seen_change h

-- the text of a value, lent or made
abbrev pub seen_wording : Wording → Text
seen_wording (wording.Lent r) = r.now
seen_wording (wording.Made t) = t
