pub mod IdDigits
mod ByteOrder
