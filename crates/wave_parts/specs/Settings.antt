-- The settings of an agent as they are kept.
use Rattle.defs_soar.specs.Agents.{Settings as SettingsOf}
use Rattle.wave_parts.specs.declared.settings.Settings.{Settings}

abbrev pub settings_seen : Settings → SettingsOf
settings_seen s = record {
  learning = s.learning;
  local_negations = s.local_negations;
  mode = s.mode;
  max_elaborations = s.max_elaborations;
  watch = s.watch;
}
