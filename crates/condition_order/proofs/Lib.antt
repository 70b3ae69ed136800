mod KnownLemmas
mod PlaceLemmas
mod ReachLemmas
mod StepLemmas
