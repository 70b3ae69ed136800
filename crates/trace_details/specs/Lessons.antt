-- What learning from a firing came to, as it is told.
use Rattle.defs_soar.specs.Events.{LearningEvent, has_lost, has_no_grounds, is_blocked, justifies, learns, reuses}
use Rattle.trace_details.specs.declared.lesson.Lesson.{Lesson}
use Rattle.trace_details.specs.declared.lesson.Lesson.TheVariants as lesson

abbrev pub lesson_seen : Lesson → LearningEvent
lesson_seen (lesson.Chunk f) = learns f.number f.name f.explained f.tags
lesson_seen (lesson.Justification f why) = justifies f.number f.name f.explained f.tags why
lesson_seen (lesson.NoGrounds explained) = has_no_grounds explained
lesson_seen (lesson.Reused name explained) = reuses name explained
lesson_seen (lesson.Lost explained tag) = has_lost explained tag
lesson_seen (lesson.Blocked explained place tag) = is_blocked explained place tag
