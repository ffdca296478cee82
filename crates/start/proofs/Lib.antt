pub mod StartLaw
