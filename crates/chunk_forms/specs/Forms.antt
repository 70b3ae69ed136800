-- A form as plain data.
use Rattle.std.specs.Prelude.{pos, [], map, None}
use Rattle.soar_sym.specs.declared.symbol.Sym.TheVariants.{Int}
use Rattle.soar_rule.specs.declared.production.Kind.{Kind}
use Rattle.soar_rule.specs.declared.production.Support.TheVariants.{Unset}
use Rattle.soar_rule.specs.Conditions.{conditions}
use Rattle.soar_rule.specs.Productions.{action_seen}
use Rattle.chunk_forms.specs.declared.form.Form.{Form}
use Rattle.defs_soar.specs.Candidate.{Form as FormOf}

abbrev pub form_seen : Kind → Form → FormOf
form_seen k f = record {
  production = record { name = Int (pos 0); doc = None; kind = k; support = Unset; vars = []; conditions = conditions f.conds; actions = map action_seen f.actions };
  names = f.names;
}
