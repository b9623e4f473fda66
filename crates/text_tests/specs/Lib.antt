pub mod CallsTo
