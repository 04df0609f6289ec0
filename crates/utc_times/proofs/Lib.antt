pub mod UnixLemmas
