-- The names of variables as the expansion keeps them, and as the definition has them.
use Rattle.std.specs.Prelude.{ℕ, Bool, false, ◌==◌, ◌&&◌, not, nat_lt, List, [], ◌∷◌, map, flat_map}
use Rattle.std.specs.List.{list_all}
use Rattle.soar_sym.specs.Words.{Texts, text_of}
use Rattle.defs_read.specs.FreshNames.{Fresh, has_name, new_name}
use Rattle.read_parts.specs.Using.{is_variable}
use Rattle.read_parts.specs.Words.{texts_of}
use Rattle.read_parts.specs.declared.names.Name.{Name}
use Rattle.read_parts.specs.declared.names.Name.TheVariants.{Given, New}
use Rattle.read_parts.specs.declared.names.Names.{Names}
use Rattle.read_parts.specs.declared.source.Source.{Source}

abbrev pub name_eq : Name → Name → Bool
name_eq (Given w) (Given v) = w == v
name_eq (New m) (New n) = m == n
name_eq a b = false

abbrev pub name_text : Texts → Name → List ℕ
name_text words (Given w) = text_of words w
name_text words (New n) = new_name n

abbrev pub new_text : Name → Texts
new_text (Given w) = []
new_text (New n) = new_name n ∷ []

-- the names of the variables in the text
abbrev pub used_texts : Source → Texts
used_texts source = texts_of source.table.now source.uses.now.used

abbrev pub fresh_seen : Source → Names → Fresh
fresh_seen source names = record {
  used = used_texts source;
  names = map (name_text source.table.now) names.list.keys;
  fresh = flat_map new_text names.list.keys;
  next = names.next;
}

-- a variable of the text, or a new name that no variable of the text has
abbrev pub is_kept : Source → ℕ → Name → Bool
is_kept source next (Given w) = is_variable source.table.now source.uses.now.used w
is_kept source next (New n) = nat_lt n next && not (has_name (used_texts source) (new_name n))

abbrev pub are_kept : Source → Names → Bool
are_kept source names = list_all (is_kept source names.next) names.list.keys
