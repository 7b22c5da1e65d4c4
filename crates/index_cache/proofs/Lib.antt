mod EntryLemmas
mod SparedLemmas
