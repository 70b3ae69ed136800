mod DrawnLemmas
mod MakerLemmas
mod SlotLemmas
mod TagLemmas
